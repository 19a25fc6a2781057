use Rattle.std.proofs.Common.{◌≡◌, ℕ, List, map, refl, subst, sym, ap, ◌∙◌}
use Rattle.path_model.specs.declared.graph.Node.{Node}
use Rattle.path_model.specs.Graph.{IsGraph}
use Rattle.line_blocks.specs.declared.plan.Run.{Run}
use Rattle.line_blocks.specs.Runs.{Runs, IsPlan, run_node}
use Rattle.line_blocks.specs.Ways.{AllMoveOn}
use Rattle.line_blocks.proofs.Named.{all_move_on}
use Rattle.line_blocks.proofs.Small.{small_graph}
use Rattle.line_blocks.proofs.making.of_plan.Goals as goal

pub returns-clause-none : goal.returns-clause-none
returns-clause-none c = λ plan up.
    let whole : List Node = c.args.whole.now in
    let numbers : List ℕ = c.args.numbers.items in
    let runs : List Run = c.args.runs.items in
    let r : Runs = record {
      nodes = whole;
      shape = c.args.geometry.now;
      small = map (run_node whole numbers) runs;
      numbers = numbers;
      runs = runs;
    } in
    let same : c.in_ok-nodes.nodes.items ≡ map (run_node whole numbers) runs =
    c.in_ok-nodes.ensures
    ∙ (ap (λ (ns : List Node). map (run_node ns c.deref-3.result.now) c.deref-4.result.now) c.nodes-2.ensures.same
    ∙ (ap (λ (ks : List ℕ). map (run_node whole ks) c.deref-4.result.now) c.deref-3.ensures.value
    ∙ ap (λ (rs : List Run). map (run_node whole numbers) rs) c.deref-4.ensures.value)) in
    c.in-None.ensures.none (subst (λ (ns : List Node). IsGraph ns) (sym same)
    (small_graph r (record { whole = c.nodes-2.ensures.graph; plan = plan; made = refl }) up))

pub moves_of-requires-clause-on : goal.moves_of-requires-clause-on
moves_of-requires-clause-on c =
    let whole : List Node = c.args.whole.now in
    let numbers : List ℕ = c.args.numbers.items in
    let runs : List Run = c.args.runs.items in
    let r : Runs = record {
      nodes = whole;
      shape = c.args.geometry.now;
      small = map (run_node whole numbers) runs;
      numbers = numbers;
      runs = runs;
    } in
    let plan : IsPlan whole c.args.geometry.now numbers runs =
    subst (λ (rs : List Run). IsPlan whole c.args.geometry.now numbers rs) c.deref-2.ensures.value
    (subst (λ (ks : List ℕ). IsPlan whole c.args.geometry.now ks c.deref-2.result.now) c.deref.ensures.value
    (subst (λ (ns : List Node). IsPlan ns c.args.geometry.now c.deref.result.now c.deref-2.result.now)
    c.nodes.ensures.same (c.is_plan.ensures.0 c.if-not-is_plan.false))) in
    let on : AllMoveOn whole numbers runs =
    all_move_on r (record { whole = c.nodes.ensures.graph; plan = plan; made = refl }) in
    subst (λ (ns : List Node). AllMoveOn ns c.deref-in-Some.result.now c.deref-in-Some-2.result.now)
    (sym c.nodes-in-Some.ensures.same)
    (subst (λ (ks : List ℕ). AllMoveOn whole ks c.deref-in-Some-2.result.now) (sym c.deref-in-Some.ensures.value)
    (subst (λ (rs : List Run). AllMoveOn whole numbers rs) (sym c.deref-in-Some-2.ensures.value) on))
