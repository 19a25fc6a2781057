-- The edges of a sparse graph, and those of the whole one.
use Rattle.std.proofs.Common.{◌≡◌, ℕ, ◌<◌, ◌⊎◌, inl, inr, ⊎_elim, List, length, map, Option, Some, None, refl, ap, sym, ◌∙◌, subst, arith, IsTrue}
use Rattle.std.specs.Prelude.{slice_get}
use Rattle.std.specs.Option.{option_map}
use Rattle.std.proofs.lemmas.Bool.{cases_eq}
use Rattle.std.proofs.lemmas.Bool.Decides.{nat_tests}
use Rattle.std.proofs.lemmas.List.{length-map}
use Rattle.std.proofs.lemmas.Option.{none-some, same_Some, slice_get-map}
use Rattle.list_lemmas.proofs.Members.{found-inside}
use Rattle.transition_spec.specs.Path.{IsSuccessor}
use Rattle.path_model.specs.declared.graph.Node.{Node}
use Rattle.path_model.specs.Graph.{graph_step, are_fit}
use Rattle.path_model.proofs.Edges.{LeadsTo, node-from_successor, successor-from_node, fit_at}
use Rattle.sparse_graph.specs.Plan.{IsKept, lead_of}
use Rattle.sparse_graph.specs.Sparse.{Sparse, IsSparse, another, moved, moved_or, moved_at}

-- a number is there, or it isn't
pub there_or_not : (o : Option ℕ) (n : ℕ) → (o ≡ Some n) ⊎ (o ≡ Some n → ⊥)
there_or_not None n = inr (λ is. none-some n is)
there_or_not (Some x) n = ⊎_elim
    (λ (same : x ≡ n). inl (ap Some same))
    (λ (other : x ≡ n → ⊥). inr (λ is. other (same_Some x n is)))
    (cases_eq x n)

-- a successor of a node, moved
pub moved_down : (lead : ℕ → ℕ) (count : ℕ) (first second : Option ℕ) (m : ℕ) → IsTrue (are_fit count first second)
    → (first ≡ Some m) ⊎ (second ≡ Some m)
    → (option_map lead first ≡ Some (lead m))
    ⊎ (another (option_map lead first) (option_map lead second) ≡ Some (lead m))
moved_down lead count None None m fit leads = elim leads [ inl is ↦ absurd (cc) | inr is ↦ absurd (cc) ]
moved_down lead count None (Some y) m fit leads = absurd (cc)
moved_down lead count (Some x) None m fit leads = elim leads [
  | inl is ↦ inl (ap (option_map lead) is)
  | inr is ↦ absurd (cc)
]
moved_down lead count (Some x) (Some y) m fit leads = elim leads [
  | inl is ↦ inl (ap (option_map lead) is)
  | inr is ↦
      let same : lead y ≡ lead m = ap lead (same_Some y m is) in
      elim (cases_eq (lead y) (lead x)) [
        | inl twice ↦ inl (ap Some (sym twice ∙ same))
        | inr other ↦ inr (grind (arith, nat_tests))
      ]
]

-- and back
moved_up : (lead : ℕ → ℕ) (first second : Option ℕ) (q : ℕ)
    → (option_map lead first ≡ Some q) ⊎ (another (option_map lead first) (option_map lead second) ≡ Some q)
    → (m : ℕ) × ((first ≡ Some m) ⊎ (second ≡ Some m)) × (lead m ≡ q)
moved_up lead None second q leads = elim leads [ inl is ↦ absurd (cc) | inr is ↦ absurd (cc) ]
moved_up lead (Some x) None q leads = elim leads [
  | inl is ↦ (x, inl refl, same_Some (lead x) q is)
  | inr is ↦ absurd (cc)
]
moved_up lead (Some x) (Some y) q leads = elim leads [
  | inl is ↦ (x, inl refl, same_Some (lead x) q is)
  | inr is ↦ (y, inr refl, grind (arith, nat_tests))
]

-- a kept node, moved
pub moved_node : (nodes : List Node) (kept leads : List ℕ) (p n : ℕ) (here : Node) → slice_get kept p ≡ Some n
    → slice_get nodes n ≡ Some here → slice_get (map (moved_at nodes leads) kept) p ≡ Some (moved leads here)
moved_node nodes kept leads p n here at found =
    slice_get-map (moved_at nodes leads) kept p
    ∙ (ap (option_map (moved_at nodes leads)) at ∙ ap (λ (o : Option Node). Some (moved_or leads o)) found)

module _ (sparse : Sparse) (is : IsSparse sparse) where
  -- the sparse graph has as many nodes as are kept
  pub as_many : length sparse.small ≡ length sparse.kept
  as_many = ap length is.made ∙ length-map sparse.kept (moved_at sparse.nodes sparse.leads)

  -- and has each of them, moved
  pub small_node : (p n : ℕ) (here : Node) → slice_get sparse.kept p ≡ Some n → slice_get sparse.nodes n ≡ Some here
      → slice_get sparse.small p ≡ Some (moved sparse.leads here)
  small_node p n here at found =
      ap (λ (nodes : List Node). slice_get nodes p) is.made
      ∙ moved_node sparse.nodes sparse.kept sparse.leads p n here at found

  -- a node is kept, or it isn't
  pub kept_or_not : (n : ℕ) → IsKept sparse.kept sparse.leads n ⊎ (IsKept sparse.kept sparse.leads n → ⊥)
  kept_or_not n = there_or_not (slice_get sparse.kept (lead_of sparse.leads n)) n

  -- an edge from a kept node, in the sparse graph
  pub edge_down : (p n m : ℕ) → slice_get sparse.kept p ≡ Some n → IsSuccessor (graph_step sparse.nodes) n m
      → IsSuccessor (graph_step sparse.small) p (lead_of sparse.leads m)
  edge_down p n m at edge =
      let named = node-from_successor sparse.nodes n m edge in
      let here : Node = named.0 in
      let fit = fit_at sparse.nodes (length sparse.nodes) n here is.whole.fit named.1 in
      successor-from_node sparse.small p (lead_of sparse.leads m) (moved sparse.leads here)
      (small_node p n here at named.1)
      (moved_down (lead_of sparse.leads) (length sparse.nodes) here.first here.second m fit named.2)

  -- an edge of the sparse graph comes from one of the whole graph
  pub edge_up : (p n q : ℕ) → slice_get sparse.kept p ≡ Some n → IsSuccessor (graph_step sparse.small) p q
      → (m : ℕ) × IsSuccessor (graph_step sparse.nodes) n m × (lead_of sparse.leads m ≡ q)
  edge_up p n q at edge =
      let named = node-from_successor sparse.small p q edge in
      let there : Node = named.0 in
      let found = found-inside sparse.nodes n (is.plan.own p n at).0 in
      let here : Node = found.0 in
      let same : there ≡ moved sparse.leads here =
      same_Some there (moved sparse.leads here) (sym named.1 ∙ small_node p n here at found.1) in
      let up = moved_up (lead_of sparse.leads) here.first here.second q
      (subst (λ (node : Node). LeadsTo node q) same named.2) in
      (up.0, successor-from_node sparse.nodes n up.0 here found.1 up.1, up.2)

  -- a node of the sparse graph has a number in the whole one
  pub origin : (p : ℕ) → p < length sparse.small → (n : ℕ) × (slice_get sparse.kept p ≡ Some n)
  origin p inside = found-inside sparse.kept p (subst (λ (k : ℕ). p < k) as_many inside)

  -- node 0 leads to node 0
  pub lead_0 : lead_of sparse.leads 0 ≡ 0
  lead_0 = (is.plan.own 0 0 is.plan.first).1
