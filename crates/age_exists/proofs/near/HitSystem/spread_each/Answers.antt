use Rattle.std.proofs.Common.{length, arith}
use Rattle.std.proofs.lemmas.List.{length-map}
use Rattle.age_exists.specs.Seen.{entry_seen}
use Rattle.age_exists.specs.Spread.{hits_seen, spread_seen}
use Rattle.age_exists.proofs.Working.{seeded_begins, seeded_more, seeded_all, fetcher_inside}
use Rattle.age_exists.proofs.near.HitSystem.spread_each.Goals as goal

pub loop-node-init : goal.loop-node-init
loop-node-init c =
    seeded_begins (hits_seen c.args.self.now) c.args.nodes.now (length c.args.found.now.steps.entries.items)
    (spread_seen c.args.found.now) (spread_seen c.spread.new.found)
    (omega (arith, length-map c.args.found.now.steps.entries.items entry_seen)) c.requires.begun c.in_ok-spread.ensures

pub spread-requires-in-loop-node-clause-inside : goal.spread-requires-in-loop-node-clause-inside
spread-requires-in-loop-node-clause-inside c =
    fetcher_inside c.args.self.now.view.now c.requires.begun.spread.is_view c.args.self.now.block c.args.nodes.now
    c.requires.fetchers c.loop-node.node-index c.loop-node-test.true

pub spread-requires-in-loop-node-clause-spread : goal.spread-requires-in-loop-node-clause-spread
spread-requires-in-loop-node-clause-spread c = c.loop-node.invariant.spread

pub loop-node-preserved : goal.loop-node-preserved
loop-node-preserved c =
    seeded_more (hits_seen c.args.self.now) c.args.nodes.now (length c.args.found.now.steps.entries.items)
    c.loop-node.node-index (spread_seen c.loop-node.found) (spread_seen c.spread-in-loop-node.new.found)
    c.loop-node.invariant c.in_ok-spread-2.ensures

pub returns : goal.returns
returns c =
    seeded_all (hits_seen c.args.self.now) c.args.nodes.now (length c.args.found.now.steps.entries.items)
    c.loop-node.node-index (spread_seen c.loop-node.found) c.requires.fetchers c.loop-node-test.false
    c.loop-node.invariant
