use Rattle.std.proofs.Common.{ℕ, List, reverse, subst, sym}
use Rattle.std.proofs.lemmas.List.{take_all}
use Rattle.transition_spec.specs.Path.{HasChoices}
use Rattle.path_model.specs.declared.graph.Node.{Node}
use Rattle.path_model.specs.Graph.{graph_step}
use Rattle.line_blocks.specs.Runs.{Runs}
use Rattle.line_blocks.proofs.Trips.{run_at}
use Rattle.line_blocks.proofs.Named.{IsNamed, named_first, named_more, way_for}
use Rattle.line_blocks.proofs.ways.way_of.Goals as goal

pub loop-place-init : goal.loop-place-init
loop-place-init c = named_first c.args.blocks.now c.small.ensures.runs c.args.path.now c.requires

pub loop-place-preserved : goal.loop-place-preserved
loop-place-preserved c =
    let r : Runs = c.args.blocks.now in
    let path : List ℕ = c.args.path.now in
    let place : ℕ = c.loop-place.place in
    let inside = run_at r c.small.ensures.runs path place c.loop-place.auto.place c.loop-place-test.true c.requires in
    named_more r c.small.ensures.runs path place c.loop-place.steps c.moves.result c.in_ok-steps.steps
    c.loop-place.auto.place c.loop-place-test.true c.requires (c.moves.ensures.moves inside) c.in_ok-steps.ensures
    c.loop-place.invariant

pub returns : goal.returns
returns c =
    let r : Runs = c.args.blocks.now in
    let path : List ℕ = c.args.path.now in
    let named : IsNamed r (reverse path) c.loop-place.steps =
    subst (λ (xs : List ℕ). IsNamed r (reverse xs) c.loop-place.steps)
    (take_all c.loop-place.place path c.loop-place-test.false) c.loop-place.invariant in
    let choices : HasChoices (graph_step r.small) (reverse path) c.in_ok-letters.letters.items =
    subst (λ (nodes : List Node). HasChoices (graph_step nodes) (reverse path) c.in_ok-letters.letters.items)
    c.small.ensures.same c.in_ok-letters.ensures in
    way_for r c.small.ensures.runs (reverse path)
    (record { steps = c.loop-place.steps; choices = c.from_letters.result }) named
    (subst (λ (xs : List ℕ). HasChoices (graph_step r.small) (reverse path) xs) (sym c.from_letters.ensures) choices)
