-- The kept nodes of a plan are a flow graph.
use Rattle.std.proofs.Common.{◌≡◌, ℕ, zero, suc, ◌+◌, ◌-◌, ◌<◌, ◌≤◌, inl, inr, ⊎_elim, true, IsTrue, List, length, map, get_or, Option, Some, None, refl, ap, sym, ◌∙◌, subst, arith}
use Rattle.std.specs.Prelude.{slice_get}
use Rattle.std.specs.List.{list_all}
use Rattle.std.specs.Option.{option_map}
use Rattle.std.specs.List.Sorted.{IsStrictlyIncreasing}
use Rattle.std.proofs.lemmas.Bool.{cases_eq, cases_lt}
use Rattle.std.proofs.lemmas.Bool.Decides.{nat_tests}
use Rattle.std.proofs.lemmas.List.{length-map}
use Rattle.std.proofs.lemmas.List.Elements.{All-from_get_or}
use Rattle.std.proofs.lemmas.List.Sums.{list_all-from_AllPass}
use Rattle.std.proofs.lemmas.Option.{slice_get_within, get_or_from_slice_get}
use Rattle.list_lemmas.proofs.Members.{found-inside}
use Rattle.transition_spec.specs.Path.{IsSuccessor}
use Rattle.path_model.specs.declared.graph.Node.{Node}
use Rattle.path_model.specs.Graph.{IsGraph, graph_step, are_fit, is_fit}
use Rattle.path_model.proofs.Edges.{node-from_successor, successor-from_node, fit_at}
use Rattle.sparse_graph.specs.Plan.{IsPlan, IsKept, lead_of}
use Rattle.sparse_graph.specs.Sparse.{another, moved, moved_at}
use Rattle.sparse_graph.proofs.Edges.{there_or_not, moved_down, moved_node}

-- rising numbers grow by one at least from place to place
rising_by : (xs : List ℕ) → IsStrictlyIncreasing xs → (q k : ℕ) → q + k < length xs
    → get_or xs q 0 + k ≤ get_or xs (q + k) 0
rising_by xs up q zero inside =
    let same : q + 0 ≡ q = omega arith in
    subst (λ (j : ℕ). get_or xs q 0 + 0 ≤ get_or xs j 0) (sym same) (omega arith)
rising_by xs up q (suc k) inside =
    let same : q + k + 1 ≡ q + suc k = omega arith in
    let rest : get_or xs q 0 + k ≤ get_or xs (q + k) 0 = rising_by xs up q k (omega (arith, inside)) in
    let step : get_or xs (q + k) 0 < get_or xs (q + k + 1) 0 = up (q + k) (omega (arith, inside)) in
    subst (λ (j : ℕ). get_or xs q 0 + suc k ≤ get_or xs j 0) same (omega (arith, rest, step))

-- successors that are moved stay fit
moved_fit : (lead : ℕ → ℕ) (count k : ℕ) (first second : Option ℕ) → IsTrue (are_fit count first second)
    → ((m : ℕ) → m < count → lead m < k)
    → IsTrue (are_fit k (option_map lead first) (another (option_map lead first) (option_map lead second)))
moved_fit lead count k None None fit below = refl
moved_fit lead count k None (Some y) fit below = absurd (cc)
moved_fit lead count k (Some x) None fit below =
    let inside : x < count = grind (arith, nat_tests) in
    let small : lead x < k = below x inside in
    grind (arith, nat_tests)
moved_fit lead count k (Some x) (Some y) fit below =
    let x_inside : x < count = grind (arith, nat_tests) in
    let y_inside : y < count = grind (arith, nat_tests) in
    let x_small : lead x < k = below x x_inside in
    let y_small : lead y < k = below y y_inside in
    elim (cases_eq (lead y) (lead x)) [
      | inl same ↦ grind (arith, nat_tests)
      | inr other ↦ grind (arith, nat_tests)
    ]

module _ (nodes : List Node) (graph : IsGraph nodes) (kept leads ranks : List ℕ)
    (plan : IsPlan nodes kept leads ranks) where
  -- the nodes of the sparse graph
  abbrev small : List Node
  small = map (moved_at nodes leads) kept

  as_many : length small ≡ length kept
  as_many = length-map kept (moved_at nodes leads)

  -- an edge from a kept node
  down : (p n m : ℕ) → slice_get kept p ≡ Some n → IsSuccessor (graph_step nodes) n m
      → IsSuccessor (graph_step small) p (lead_of leads m)
  down p n m at edge =
      let named = node-from_successor nodes n m edge in
      let here : Node = named.0 in
      let fit = fit_at nodes (length nodes) n here graph.fit named.1 in
      successor-from_node small p (lead_of leads m) (moved leads here) (moved_node nodes kept leads p n here at named.1)
      (moved_down (lead_of leads) (length nodes) here.first here.second m fit named.2)

  -- a place is at most the number of the node that is kept there
  place_below : (p n : ℕ) → slice_get kept p ≡ Some n → p ≤ n
  place_below p n at =
      let inside : p < length kept = slice_get_within kept p n at in
      let zero_p : 0 + p ≡ p = omega arith in
      let by : get_or kept 0 0 + p ≤ get_or kept (0 + p) 0 = rising_by kept plan.rising 0 p (omega (arith, inside)) in
      let here : get_or kept (0 + p) 0 ≡ n =
      ap (λ (j : ℕ). get_or kept j 0) zero_p ∙ get_or_from_slice_get kept p n 0 at in
      omega (arith, by, here)

  -- a smaller kept node has a smaller place
  place_less : (q p d n : ℕ) → slice_get kept q ≡ Some d → slice_get kept p ≡ Some n → d < n → q < p
  place_less q p d n at_q at_p less = ⊎_elim
      (λ (below : q < p). below)
      (λ (above : p ≤ q).
      let k : ℕ = q - p in
      let sum : p + k ≡ q = omega (arith, above) in
      let inside : p + k < length kept = omega (arith, sum, slice_get_within kept q d at_q) in
      let by : get_or kept p 0 + k ≤ get_or kept (p + k) 0 = rising_by kept plan.rising p k inside in
      let low : get_or kept p 0 ≡ n = get_or_from_slice_get kept p n 0 at_p in
      let high : get_or kept (p + k) 0 ≡ d =
      ap (λ (j : ℕ). get_or kept j 0) sum ∙ get_or_from_slice_get kept q d 0 at_q in
      absurd (omega (arith, by, low, high, less)))
      (cases_lt q p)

  -- going back from a node along smaller numbers, the first kept one is before the place that the node leads to
  follows : (bound c p n : ℕ) → c < bound → c < length nodes → c ≤ n → slice_get kept p ≡ Some n → 1 ≤ p
      → lead_of leads c ≡ p → (q : ℕ) × (q < p) × IsSuccessor (graph_step small) q p
  follows zero c p n bounded inside below at some lead = absurd (omega (arith, bounded))
  follows (suc bound) c p n bounded inside below at some lead = ⊎_elim
      (λ (is_zero : c ≡ 0).
      let none : lead_of leads c ≡ 0 = ap (lead_of leads) is_zero ∙ (plan.own 0 0 plan.first).1 in
      absurd (omega (arith, none, lead, some)))
      (λ (other : c ≡ 0 → ⊥).
      let before = graph.reached c (omega (arith, other)) inside in
      let d : ℕ = before.0 in
      let less : d < c = before.1 in
      let d_inside : d < length nodes = omega (arith, less, inside) in
      ⊎_elim
      (λ (is_kept : IsKept kept leads d). (
        lead_of leads d,
        place_less (lead_of leads d) p d n is_kept at (omega (arith, less, below)),
        subst (λ (k : ℕ). IsSuccessor (graph_step small) (lead_of leads d) k) lead
            (down (lead_of leads d) d c is_kept before.2),
      ))
      (λ (dropped : IsKept kept leads d → ⊥).
      let passed = plan.dropped d d_inside dropped in
      follows bound d p n (omega (arith, less, bounded)) d_inside (omega (arith, less, below)) at some
      (sym (passed.alike c before.2) ∙ lead))
      (there_or_not (slice_get kept (lead_of leads d)) d))
      (cases_eq c 0)

  -- the successors of each node are fit
  all_fit : IsTrue (list_all (is_fit (length small)) small)
  all_fit =
      let none : Node = record { at = 0; first = None; second = None } in
      list_all-from_AllPass (is_fit (length small)) small
      (All-from_get_or (λ (node : Node). is_fit (length small) node ≡ true) small none (λ p inside.
      let found = found-inside kept p (subst (λ (c : ℕ). p < c) as_many inside) in
      let n : ℕ = found.0 in
      let whole = found-inside nodes n (plan.own p n found.1).0 in
      let here : Node = whole.0 in
      let at : get_or small p none ≡ moved leads here =
      get_or_from_slice_get small p (moved leads here) none (moved_node nodes kept leads p n here found.1 whole.1) in
      let below : (m : ℕ) → m < length nodes → lead_of leads m < length small =
      λ m m_inside. subst (λ (c : ℕ). lead_of leads m < c) (sym as_many) (plan.inside m m_inside) in
      subst (λ (node : Node). is_fit (length small) node ≡ true) (sym at)
      (moved_fit (lead_of leads) (length nodes) (length small) here.first here.second
      (fit_at nodes (length nodes) n here graph.fit whole.1) below)))

  -- so they are a graph
  pub small_graph : IsGraph small
  small_graph =
      let some_kept : 0 < length kept = slice_get_within kept 0 0 plan.first in
      let last : ℕ = length kept - 1 in
      let top = found-inside kept last (omega (arith, some_kept)) in
      let below : last ≤ top.0 = place_below last top.0 top.1 in
      let within : top.0 < length nodes = (plan.own last top.0 top.1).0 in
      record {
        some = omega (arith, some_kept, as_many);
        few = omega (arith, below, within, graph.few, as_many, some_kept);
        fit = all_fit;
        reached = λ p some inside.
            let found = found-inside kept p (subst (λ (c : ℕ). p < c) as_many inside) in
            let n : ℕ = found.0 in
            let own = plan.own p n found.1 in
            let bounded : n < suc n = omega arith in
            let same : n ≤ n = omega arith in
            follows (suc n) n p n bounded own.0 same found.1 some own.1;
      }
