-- The runs of a plan are a graph.
use Rattle.std.proofs.Common.{◌≡◌, ℕ, zero, suc, ◌-◌, ◌<◌, ◌≤◌, inl, inr, ⊎_elim, true, IsTrue, List, length, get_or, Option, Some, None, refl, ap, sym, ◌∙◌, subst, arith}
use Rattle.std.specs.Prelude.{slice_get}
use Rattle.std.specs.List.{list_all}
use Rattle.std.specs.Option.{option_map}
use Rattle.std.proofs.lemmas.Bool.{cases_eq, cases_lt}
use Rattle.std.proofs.lemmas.Bool.Decides.{nat_tests}
use Rattle.std.proofs.lemmas.List.{length-map}
use Rattle.std.proofs.lemmas.List.Elements.{All-from_get_or}
use Rattle.std.proofs.lemmas.List.Sums.{list_all-from_AllPass}
use Rattle.std.proofs.lemmas.Option.{get_or_from_slice_get}
use Rattle.list_lemmas.proofs.Members.{found-inside}
use Rattle.transition_spec.specs.Path.{IsSuccessor}
use Rattle.path_model.specs.declared.graph.Node.{Node}
use Rattle.path_model.specs.Graph.{IsGraph, graph_step, address_of, are_fit, is_fit}
use Rattle.path_model.proofs.Edges.{fit_at}
use Rattle.line_blocks.specs.declared.plan.Run.{Run}
use Rattle.line_blocks.specs.Runs.{Runs, AreRising, IsHead, run_of, head_of, second_by, node_by, run_node}
use Rattle.line_blocks.proofs.Edges.{AreMade, head_or_not, inner_edge, head_edge, small_node, some_run, run_inside, later_positive, head_is}

-- two successors stay fit
run_fit : (number : ℕ → ℕ) (count k : ℕ) (first second : Option ℕ) → IsTrue (are_fit count first second)
    → ((m : ℕ) → m < count → number m < k)
    → IsTrue (are_fit k (option_map number first) (second_by (option_map number first) (option_map number second)))
run_fit number count k None None fit below = refl
run_fit number count k None (Some y) fit below = absurd (cc)
run_fit number count k (Some x) None fit below =
    let inside : x < count = grind (arith, nat_tests) in
    let small : number x < k = below x inside in
    grind (arith, nat_tests)
run_fit number count k (Some x) (Some y) fit below =
    let x_inside : x < count = grind (arith, nat_tests) in
    let y_inside : y < count = grind (arith, nat_tests) in
    let x_small : number x < k = below x x_inside in
    let y_small : number y < k = below y y_inside in
    elim (cases_eq (number y) (number x)) [
      | inl same ↦ grind (arith, nat_tests)
      | inr other ↦ grind (arith, nat_tests)
    ]

module _ (r : Runs) (are : AreMade r) (up : AreRising r.runs) where
  as_many : length r.small ≡ length r.runs
  as_many = ap (λ (small : List Node). length small) are.made ∙ length-map r.runs (run_node r.nodes r.numbers)

  -- the first node of a run has the least number
  least : (bound n : ℕ) → n < bound → n < length r.nodes → head_of r.runs (run_of r.numbers n) ≤ n
  least zero n small inside = absurd (omega (arith, small))
  least (suc bound) n small inside = ⊎_elim
      (λ (head : IsHead r.numbers r.runs n). omega (arith, head))
      (λ (later : IsHead r.numbers r.runs n → ⊥).
      let before = are.whole.reached n (later_positive r are n later) inside in
      let d : ℕ = before.0 in
      let same : run_of r.numbers n ≡ run_of r.numbers d = (inner_edge r are d n before.2 later).1 in
      let rest : head_of r.runs (run_of r.numbers d) ≤ d =
      least bound d (omega (arith, before.1, small)) (omega (arith, before.1, inside)) in
      let low : head_of r.runs (run_of r.numbers n) ≤ d = subst (λ (p : ℕ). head_of r.runs p ≤ d) (sym same) rest in
      omega (arith, low, before.1))
      (head_or_not r.numbers r.runs n)

  -- a run's number is at most that of its first node
  below_head : (p : ℕ) → p < length r.runs → p ≤ head_of r.runs p
  below_head zero inside = omega arith
  below_head (suc p) inside =
      let rest : p ≤ head_of r.runs p = below_head p (omega (arith, inside)) in
      let less : p < suc p = omega arith in
      let more : head_of r.runs p < head_of r.runs (suc p) = up p (suc p) less inside in
      omega (arith, rest, more)

  -- a node before the first one of a run is in an earlier run
  run_less : (d p : ℕ) → d < length r.nodes → d < head_of r.runs p → p < length r.runs → run_of r.numbers d < p
  run_less d p inside less within =
      let q : ℕ = run_of r.numbers d in
      let enough : d < suc d = omega arith in
      let low : head_of r.runs q ≤ d = least (suc d) d enough inside in
      ⊎_elim
      (λ (below : q < p). below)
      (λ (above : p ≤ q). ⊎_elim
      (λ (same : q ≡ p).
      let heads : head_of r.runs q ≡ head_of r.runs p = ap (head_of r.runs) same in absurd (omega (arith, low, less, heads)))
      (λ (other : q ≡ p → ⊥).
      let more : head_of r.runs p < head_of r.runs q = up p q (omega (arith, above, other)) (run_inside r are d inside) in
      absurd (omega (arith, low, less, more)))
      (cases_eq q p))
      (cases_lt q p)

  -- each run but the first follows an earlier one
  follows : (p : ℕ) → 1 ≤ p → p < length r.runs → (q : ℕ) × (q < p) × IsSuccessor (graph_step r.small) q p
  follows p some inside =
      let n : ℕ = head_of r.runs p in
      let n_inside : n < length r.nodes = (are.plan.2 p inside).0 in
      let low : p ≤ n = below_head p inside in
      let before = are.whole.reached n (omega (arith, some, low)) n_inside in
      let d : ℕ = before.0 in
      let d_inside : d < length r.nodes = omega (arith, before.1, n_inside) in (
        run_of r.numbers d,
        run_less d p d_inside before.1 inside,
        subst (λ (k : ℕ). IsSuccessor (graph_step r.small) (run_of r.numbers d) k) (are.plan.2 p inside).1
            (head_edge r are d n before.2 (head_is r are p inside)),
      )

  run_below : (m : ℕ) → m < length r.nodes → run_of r.numbers m < length r.small
  run_below m inside = subst (λ (count : ℕ). run_of r.numbers m < count) (sym as_many) (run_inside r are m inside)

  node_fit : (at n : ℕ) (o : Option Node) → slice_get r.nodes n ≡ o → is_fit (length r.small) (node_by r.numbers at o) ≡ true
  node_fit at n None found = refl
  node_fit at n (Some node) found = run_fit (run_of r.numbers) (length r.nodes) (length r.small) node.first node.second
      (fit_at r.nodes (length r.nodes) n node are.whole.fit found) run_below

  all_fit : IsTrue (list_all (is_fit (length r.small)) r.small)
  all_fit =
      let none : Node = record { at = 0; first = None; second = None } in
      list_all-from_AllPass (is_fit (length r.small)) r.small
      (All-from_get_or (λ (node : Node). is_fit (length r.small) node ≡ true) r.small none (λ p inside.
      let found = found-inside r.runs p (subst (λ (count : ℕ). p < count) as_many inside) in
      let run : Run = found.0 in
      let at : get_or r.small p none ≡ run_node r.nodes r.numbers run =
      get_or_from_slice_get r.small p (run_node r.nodes r.numbers run) none (small_node r are p run found.1) in
      subst (λ (node : Node). is_fit (length r.small) node ≡ true) (sym at)
      (node_fit (address_of r.nodes run.head) run.last (slice_get r.nodes run.last) refl)))

  -- the runs are a graph
  pub small_graph : IsGraph r.small
  small_graph =
      let some : 0 < length r.runs = some_run r are in
      let last : ℕ = length r.runs - 1 in
      let last_inside : last < length r.runs = omega (arith, some) in
      let low : last ≤ head_of r.runs last = below_head last last_inside in
      let within : head_of r.runs last < length r.nodes = (are.plan.2 last last_inside).0 in
      record {
        some = omega (arith, some, as_many);
        few = omega (arith, low, within, are.whole.few, as_many, some);
        fit = all_fit;
        reached = λ p positive inside.
            follows p positive (subst (λ (count : ℕ). p < count) as_many inside);
      }
