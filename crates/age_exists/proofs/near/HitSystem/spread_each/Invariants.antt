use Rattle.std.proofs.Common.{length}
use Rattle.age_exists.specs.Spread.{hits_seen, spread_seen}
use Rattle.age_exists.proofs.Working.{AreSeeded}
use Rattle.age_exists.proofs.near.HitSystem.spread_each.Given as goal

abbrev pub invariant-loop-node : goal.invariant-loop-node
invariant-loop-node l =
    AreSeeded (hits_seen l.self) l.nodes (length l.fn.found.steps.entries.items) l.node-index (spread_seen l.found)
