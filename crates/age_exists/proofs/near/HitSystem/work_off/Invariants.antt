use Rattle.std.proofs.Common.{◌+◌, ◌-◌, length}
use Rattle.std.specs.Prelude.{sum}
use Rattle.age_exists.specs.Seen.{entries_seen}
use Rattle.age_exists.specs.Spread.{IsUnderWay, hits_seen, spread_seen}
use Rattle.age_exists.proofs.near.HitSystem.work_off.Given as goal

abbrev pub invariant-loop-head : goal.invariant-loop-head
invariant-loop-head l = IsUnderWay (hits_seen l.self) l.head (spread_seen l.found)

-- each new entry came with a lower bound
abbrev pub decreases-loop-head : goal.decreases-loop-head
decreases-loop-head l = sum l.found.bounds.items + length (entries_seen l.found.steps.entries.items) - l.head
