-- The paths of a sparse graph, and those of the whole one.
use Rattle.std.proofs.Common.{◌≡◌, ℕ, zero, suc, ◌<◌, ⊎_elim, List, [], ◌∷◌, length, Option, Some, refl, ap, sym, ◌∙◌, subst, arith}
use Rattle.std.specs.Prelude.{slice_get}
use Rattle.std.specs.List.{filter_map, cons_option}
use Rattle.std.proofs.lemmas.Option.{slice_get_within}
use Rattle.transition_spec.specs.Path.{IsPath, IsSuccessor}
use Rattle.path_model.specs.Graph.{graph_step}
use Rattle.path_model.proofs.Edges.{node-from_successor}
use Rattle.path_model.proofs.Reached.{successor_inside}
use Rattle.sparse_graph.specs.Plan.{IsKept, lead_of, rank_of}
use Rattle.sparse_graph.specs.Sparse.{Sparse, IsSparse, FetchAlike}
use Rattle.sparse_graph.proofs.Edges.{kept_or_not, edge_down, edge_up, origin, lead_0}

module _ (sparse : Sparse) (is : IsSparse sparse) (fetch small_fetch : ℕ → Option ℕ)
    (alike : FetchAlike sparse fetch small_fetch) where
  -- a path of the sparse graph ends where the node leads, and fetches the same before
  abbrev GoesDown : ℕ → List ℕ → Type 0
  GoesDown m earlier = (other : List ℕ) × IsPath (graph_step sparse.small) 0 (lead_of sparse.leads m ∷ other)
      × (filter_map fetch earlier ≡ filter_map small_fetch other)

  -- one member more, after a kept node
  after_kept : (m d : ℕ) (earlier : List ℕ) → IsSuccessor (graph_step sparse.nodes) d m → GoesDown d earlier
      → IsKept sparse.kept sparse.leads d → GoesDown m (d ∷ earlier)
  after_kept m d earlier edge before at = (
    lead_of sparse.leads d ∷ before.0,
    (edge_down sparse is (lead_of sparse.leads d) d m at edge, before.1),
    ap (λ (o : Option ℕ). cons_option o (filter_map fetch earlier)) (sym (alike.same (lead_of sparse.leads d) d at))
        ∙ ap (cons_option (small_fetch (lead_of sparse.leads d))) before.2,
  )

  -- one member more, after a dropped node
  after_dropped : (m d : ℕ) (earlier : List ℕ) → IsSuccessor (graph_step sparse.nodes) d m → GoesDown d earlier
      → (IsKept sparse.kept sparse.leads d → ⊥) → GoesDown m (d ∷ earlier)
  after_dropped m d earlier edge before not =
      let named = node-from_successor sparse.nodes d m edge in
      let inside : d < length sparse.nodes = slice_get_within sparse.nodes d named.0 named.1 in (
        before.0,
        subst (λ (q : ℕ). IsPath (graph_step sparse.small) 0 (q ∷ before.0))
            (sym ((is.plan.dropped d inside not).alike m edge)) before.1,
        ap (λ (o : Option ℕ). cons_option o (filter_map fetch earlier)) (alike.none d inside not) ∙ before.2,
      )

  -- each path of the whole graph has one of the sparse graph
  pub path_down : (m : ℕ) (earlier : List ℕ) → IsPath (graph_step sparse.nodes) 0 (m ∷ earlier) → GoesDown m earlier
  path_down m [] path = ([], ap (lead_of sparse.leads) path ∙ lead_0 sparse is, refl)
  path_down m (d ∷ earlier) path = ⊎_elim
      (λ (at : IsKept sparse.kept sparse.leads d). after_kept m d earlier path.0 (path_down d earlier path.1) at)
      (λ (not : IsKept sparse.kept sparse.leads d → ⊥).
      after_dropped m d earlier path.0 (path_down d earlier path.1) not)
      (kept_or_not sparse is d)

  -- a path of the whole graph ends in the node, and has fetched this before
  abbrev GoesUp : ℕ → List ℕ → Type 0
  GoesUp n seen = (earlier : List ℕ) × IsPath (graph_step sparse.nodes) 0 (n ∷ earlier)
      × (filter_map fetch earlier ≡ seen)

  -- a path goes on to where its last member leads
  goes_on : (bound m y : ℕ) (earlier seen : List ℕ) → rank_of sparse.ranks m < bound → m < length sparse.nodes
      → slice_get sparse.kept (lead_of sparse.leads m) ≡ Some y → IsPath (graph_step sparse.nodes) 0 (m ∷ earlier)
      → filter_map fetch earlier ≡ seen → GoesUp y seen
  goes_on zero m y earlier seen bounded inside at path same = absurd (omega arith)
  goes_on (suc bound) m y earlier seen bounded inside at path same = ⊎_elim
      (λ (here : slice_get sparse.kept (lead_of sparse.leads m) ≡ Some m).
      let is_y : m ≡ y = cc in
      subst (λ (k : ℕ). GoesUp k seen) is_y (earlier, path, same))
      (λ (not : slice_get sparse.kept (lead_of sparse.leads m) ≡ Some m → ⊥).
      let passed = is.plan.dropped m inside not in
      let next = passed.nearer in
      let lead : lead_of sparse.leads next.0 ≡ lead_of sparse.leads m = passed.alike next.0 next.1 in
      let smaller : rank_of sparse.ranks next.0 < bound = omega (arith, next.2) in
      goes_on bound next.0 y (m ∷ earlier) seen smaller (successor_inside sparse.nodes m next.0 is.whole next.1)
      (subst (λ (q : ℕ). slice_get sparse.kept q ≡ Some y) (sym lead) at) (next.1, path)
      (ap (λ (o : Option ℕ). cons_option o (filter_map fetch earlier)) (alike.none m inside not) ∙ same))
      (kept_or_not sparse is m)

  -- each path of the sparse graph has one of the whole graph
  pub path_up : (p n : ℕ) (other : List ℕ) → slice_get sparse.kept p ≡ Some n
      → IsPath (graph_step sparse.small) 0 (p ∷ other) → GoesUp n (filter_map small_fetch other)
  path_up p n [] at path =
      let zero_at : slice_get sparse.kept 0 ≡ Some n =
      subst (λ (q : ℕ). slice_get sparse.kept q ≡ Some n) path at in
      ([], (let first = is.plan.first in cc), refl)
  path_up p n (q ∷ other) at path =
      let named = node-from_successor sparse.small q p path.0 in
      let before = origin sparse is q (slice_get_within sparse.small q named.0 named.1) in
      let old : ℕ = before.0 in
      let rest = path_up q old other before.1 path.1 in
      let edge = edge_up sparse is q old p before.1 path.0 in
      let m : ℕ = edge.0 in
      let bounded : rank_of sparse.ranks m < suc (rank_of sparse.ranks m) = omega arith in
      goes_on (suc (rank_of sparse.ranks m)) m n (old ∷ rest.0) (filter_map small_fetch (q ∷ other)) bounded
      (successor_inside sparse.nodes old m is.whole edge.1)
      (subst (λ (k : ℕ). slice_get sparse.kept k ≡ Some n) (sym edge.2) at) (edge.1, rest.1)
      (ap (λ (o : Option ℕ). cons_option o (filter_map fetch rest.0)) (sym (alike.same q old before.1))
      ∙ ap (cons_option (small_fetch q)) rest.2)
