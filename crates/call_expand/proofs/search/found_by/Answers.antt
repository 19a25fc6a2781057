use Rattle.std.proofs.Common.{refl, ap, ◌∙◌, get_or}
use Rattle.std.specs.Prelude.{flat_map}
use Rattle.std.proofs.lemmas.List.{take_all}
use Rattle.call_expand.specs.Point.{points_of}
use Rattle.call_expand.proofs.Edges.{none}
use Rattle.call_expand.proofs.Numbered.{found-more}
use Rattle.call_expand.proofs.search.found_by.Goals as goal

pub loop-edge-preserved : goal.loop-edge-preserved
loop-edge-preserved c =
    found-more c.args.edges.now c.loop-edge.edge-index none (get_or c.args.edges.now c.loop-edge.edge-index none)
    c.loop-edge.found.items
    c.push_some.new.found.items c.push_some-in-loop-edge.new.found.items c.loop-edge-test.true refl
    c.loop-edge.invariant c.in_ok-push_some.ensures
    c.in_ok-push_some-2.ensures

pub returns : goal.returns
returns c =
    c.loop-edge.invariant
    ∙ ap (flat_map points_of) (take_all c.loop-edge.edge-index c.args.edges.now c.loop-edge-test.false)
