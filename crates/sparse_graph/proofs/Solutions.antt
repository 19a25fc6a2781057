-- Solutions over a flow graph and over its sparse graph.
use Rattle.std.proofs.Common.{◌≡◌, ℕ, zero, suc, ◌<◌, ⊎_elim, List, length, Some, ap, sym, ◌∙◌, subst, arith}
use Rattle.std.specs.Prelude.{slice_get}
use Rattle.std.proofs.lemmas.Option.{same_Some, slice_get_within, slice_get-get_or, get_or_from_slice_get}
use Rattle.list_lemmas.proofs.Members.{found-inside}
use Rattle.transition_spec.specs.Path.{IsSuccessor}
use Rattle.path_model.specs.Graph.{graph_step}
use Rattle.path_model.proofs.Reached.{successor_inside}
use Rattle.lattice_fix.specs.Framework.{Framework, IsMonotone}
use Rattle.lattice_fix.specs.Solution.{IsSolution, IsLeast}
use Rattle.lattice_fix.proofs.Edges.{edge_inside}
use Rattle.sparse_graph.specs.Plan.{IsKept, lead_of, rank_of, origin_of}
use Rattle.sparse_graph.specs.Sparse.{Sparse, IsSparse}
use Rattle.sparse_graph.specs.Alike.{MoveAlike, data_at}
use Rattle.sparse_graph.proofs.Edges.{as_many, kept_or_not, edge_down, edge_up, origin, lead_0}
use Rattle.sparse_graph.proofs.Places.{AreBelow, length-data_at, datum_at}

module _ {D : Type 0} (sparse : Sparse) (is : IsSparse sparse) (F G : Framework D) (laws : IsMonotone F)
    (alike : MoveAlike sparse F G) where
  -- an edge of the whole graph
  abbrev Edge : ℕ → ℕ → Type 0
  Edge n m = IsSuccessor (graph_step sparse.nodes) n m

  -- where a node leads
  abbrev lead : ℕ → ℕ
  lead n = lead_of sparse.leads n

  module _ (small : List D) (solves : IsSolution G sparse.small small) where
    -- each node gets the datum of the node that it leads to
    abbrev wide : List D
    wide = data_at small sparse.leads

    -- each lead is a place of the small solution
    leads_below : AreBelow sparse.leads (length small)
    leads_below k inside =
        let below : lead k < length sparse.kept =
        is.plan.inside k (subst (λ (c : ℕ). k < c) is.plan.one_each inside) in
        subst (λ (c : ℕ). lead k < c) (sym (as_many sparse is) ∙ sym solves.one_each) below

    -- so each node gets one
    wide_long : length wide ≡ length sparse.nodes
    wide_long = length-data_at small sparse.leads leads_below ∙ is.plan.one_each

    -- it is the one of the node that it leads to
    wide_at : (n : ℕ) → n < length sparse.nodes → slice_get wide n ≡ slice_get small (lead n)
    wide_at n inside =
        datum_at small sparse.leads n leads_below (subst (λ (c : ℕ). n < c) (sym is.plan.one_each) inside)

    -- what a node gets is what the small solution has there
    gets : (n : ℕ) (x : D) → slice_get wide n ≡ Some x → slice_get small (lead n) ≡ Some x
    gets n x has =
        let inside : n < length sparse.nodes = subst (λ (c : ℕ). n < c) wide_long (slice_get_within wide n x has) in
        sym (wide_at n inside) ∙ has

    -- it is one that counts
    wide_within : (n : ℕ) (x : D) → slice_get wide n ≡ Some x → F.carrier x
    wide_within n x has = (alike.carrier x).1 (solves.within (lead n) x (gets n x has))

    -- over an edge from a kept node the small solution rises enough
    from_kept : (n m : ℕ) (x y : D) → IsKept sparse.kept sparse.leads n → Edge n m → F.carrier x
        → slice_get small (lead n) ≡ Some x → slice_get small (lead m) ≡ Some y → F.below (F.transfer n x) y
    from_kept n m x y at edge carrier has_x has_y =
        let step = solves.follows (lead n) (lead m) x y (edge_down sparse is (lead n) n m at edge) has_x has_y in
        subst (λ (z : D). F.below z y) (alike.kept (lead n) n x at carrier)
        ((alike.below (G.transfer (lead n) x) y).1 step)

    -- and over one from a dropped node the datum stays
    from_dropped : (n m : ℕ) (x y : D) → n < length sparse.nodes → (IsKept sparse.kept sparse.leads n → ⊥) → Edge n m
        → F.carrier x → slice_get small (lead n) ≡ Some x → slice_get small (lead m) ≡ Some y
        → F.below (F.transfer n x) y
    from_dropped n m x y inside not edge carrier has_x has_y =
        let on : lead m ≡ lead n = (is.plan.dropped n inside not).alike m edge in
        let here : slice_get small (lead n) ≡ Some y = subst (λ (q : ℕ). slice_get small q ≡ Some y) on has_y in
        let same : x ≡ y = same_Some x y (sym has_x ∙ here) in
        let stays : F.below (F.transfer n x) x =
        subst (λ (z : D). F.below z x) (sym (alike.dropped n x inside not carrier)) (laws.reflexive x carrier) in
        subst (λ (z : D). F.below (F.transfer n x) z) same stays

    -- so it gives a solution over the whole graph
    wide_solves : IsSolution F sparse.nodes wide
    wide_solves = record {
      one_each = wide_long;
      within = wide_within;
      starts = λ x has.
          let here : slice_get small 0 ≡ Some x =
          subst (λ (q : ℕ). slice_get small q ≡ Some x) (lead_0 sparse is) (gets 0 x has) in
          subst (λ (z : D). F.below z x) alike.start ((alike.below G.start x).1 (solves.starts x here));
      follows = λ n m x y edge has_x has_y.
          let ends = edge_inside sparse.nodes is.whole n m edge in
          ⊎_elim
          (λ (at : IsKept sparse.kept sparse.leads n).
          from_kept n m x y at edge (wide_within n x has_x) (gets n x has_x) (gets m y has_y))
          (λ (not : IsKept sparse.kept sparse.leads n → ⊥).
          from_dropped n m x y ends.0 not edge (wide_within n x has_x) (gets n x has_x) (gets m y has_y))
          (kept_or_not sparse is n);
    }

  module _ (before : List D) (solves : IsSolution F sparse.nodes before) where
    -- what the kept nodes have
    abbrev narrow : List D
    narrow = data_at before sparse.kept

    -- each kept node is a place of the whole solution
    kept_below : AreBelow sparse.kept (length before)
    kept_below p inside =
        let own = is.plan.own p (origin_of sparse.kept p) (slice_get-get_or sparse.kept p 0 inside) in
        subst (λ (c : ℕ). origin_of sparse.kept p < c) (sym solves.one_each) own.0

    -- so there is one for each of them
    narrow_long : length narrow ≡ length sparse.small
    narrow_long = length-data_at before sparse.kept kept_below ∙ sym (as_many sparse is)

    -- it is what the kept node has
    narrow_at : (p n : ℕ) → slice_get sparse.kept p ≡ Some n → slice_get narrow p ≡ slice_get before n
    narrow_at p n at =
        datum_at before sparse.kept p kept_below (slice_get_within sparse.kept p n at)
        ∙ ap (slice_get before) (get_or_from_slice_get sparse.kept p n 0 at)

    -- what is there is what a kept node has
    comes : (p : ℕ) (x : D) → slice_get narrow p ≡ Some x
        → (n : ℕ) × (slice_get sparse.kept p ≡ Some n) × (slice_get before n ≡ Some x)
    comes p x has =
        let found = origin sparse is p (subst (λ (c : ℕ). p < c) narrow_long (slice_get_within narrow p x has)) in
        (found.0, found.1, sym (narrow_at p found.0 found.1) ∙ has)

    -- each node has something
    has_one : (n : ℕ) → n < length sparse.nodes → (x : D) × (slice_get before n ≡ Some x)
    has_one n inside = found-inside before n (subst (λ (c : ℕ). n < c) (sym solves.one_each) inside)

    -- what a node has is below what the kept node has that it leads to
    below_lead : (bound m y : ℕ) (z w : D) → rank_of sparse.ranks m < bound → m < length sparse.nodes
        → slice_get sparse.kept (lead m) ≡ Some y → slice_get before m ≡ Some z → slice_get before y ≡ Some w
        → F.below z w
    below_lead zero m y z w bounded inside at has_z has_w = absurd (omega arith)
    below_lead (suc bound) m y z w bounded inside at has_z has_w = ⊎_elim
        (λ (here : slice_get sparse.kept (lead m) ≡ Some m).
        let is_y : m ≡ y = cc in
        let same : z ≡ w = same_Some z w (sym has_z ∙ (ap (slice_get before) is_y ∙ has_w)) in
        subst (λ (v : D). F.below z v) same (laws.reflexive z (solves.within m z has_z)))
        (λ (not : slice_get sparse.kept (lead m) ≡ Some m → ⊥).
        let passed = is.plan.dropped m inside not in
        let k : ℕ = passed.nearer.0 in
        let edge : Edge m k = passed.nearer.1 in
        let on : lead k ≡ lead m = passed.alike k edge in
        let smaller : rank_of sparse.ranks k < bound = omega (arith, passed.nearer.2) in
        let k_inside : k < length sparse.nodes = successor_inside sparse.nodes m k is.whole edge in
        let next = has_one k k_inside in
        let cz : F.carrier z = solves.within m z has_z in
        let step : F.below z next.0 =
        subst (λ (u : D). F.below u next.0) (alike.dropped m z inside not cz)
        (solves.follows m k z next.0 edge has_z next.1) in
        let rest : F.below next.0 w =
        below_lead bound k y next.0 w smaller k_inside
        (subst (λ (q : ℕ). slice_get sparse.kept q ≡ Some y) (sym on) at) next.1 has_w in
        laws.transitive z next.0 w cz (solves.within k next.0 next.1) (solves.within y w has_w) step rest)
        (kept_or_not sparse is m)

    -- over an edge of the sparse graph it rises enough
    over_edge : (p q n y : ℕ) (x w : D) → IsSuccessor (graph_step sparse.small) p q → slice_get sparse.kept p ≡ Some n
        → slice_get sparse.kept q ≡ Some y → slice_get before n ≡ Some x → slice_get before y ≡ Some w
        → F.below (F.transfer n x) w
    over_edge p q n y x w edge at_p at_q has_x has_w =
        let up = edge_up sparse is p n q at_p edge in
        let m : ℕ = up.0 in
        let inside : m < length sparse.nodes = successor_inside sparse.nodes n m is.whole up.1 in
        let next = has_one m inside in
        let bounded : rank_of sparse.ranks m < suc (rank_of sparse.ranks m) = omega arith in
        let at_m : slice_get sparse.kept (lead m) ≡ Some y =
        subst (λ (k : ℕ). slice_get sparse.kept k ≡ Some y) (sym up.2) at_q in
        let rest : F.below next.0 w =
        below_lead (suc (rank_of sparse.ranks m)) m y next.0 w bounded inside at_m next.1 has_w in
        laws.transitive (F.transfer n x) next.0 w (laws.transfer_within n x (solves.within n x has_x))
        (solves.within m next.0 next.1) (solves.within y w has_w) (solves.follows n m x next.0 up.1 has_x next.1) rest

    -- so the kept nodes have a solution over the sparse graph
    narrow_solves : IsSolution G sparse.small narrow
    narrow_solves = record {
      one_each = narrow_long;
      within = λ p x has. let from = comes p x has in (alike.carrier x).0 (solves.within from.0 x from.2);
      starts = λ x has.
          let here : slice_get before 0 ≡ Some x = sym (narrow_at 0 0 is.plan.first) ∙ has in
          (alike.below G.start x).0 (subst (λ (z : D). F.below z x) (sym alike.start) (solves.starts x here));
      follows = λ p q x w edge has_x has_w.
          let one = comes p x has_x in
          let two = comes q w has_w in
          let rises : F.below (F.transfer one.0 x) w = over_edge p q one.0 two.0 x w edge one.1 two.1 one.2 two.2 in
          (alike.below (G.transfer p x) w).0
          (subst (λ (z : D). F.below z w) (sym (alike.kept p one.0 x one.1 (solves.within one.0 x one.2))) rises);
    }

  -- the kept nodes have the least one where all nodes do
  pub least_narrow : (before : List D) → IsLeast F sparse.nodes before
      → IsLeast G sparse.small (data_at before sparse.kept)
  least_narrow before least = record {
    solution = narrow_solves before least.solution;
    least = λ other solves p x y has_x has_y.
        let from = comes before least.solution p x has_x in
        let n : ℕ = from.0 in
        let own = is.plan.own p n from.1 in
        let there : slice_get (data_at other sparse.leads) n ≡ Some y =
        wide_at other solves n own.0 ∙ (ap (slice_get other) own.1 ∙ has_y) in
        (alike.below x y).0
        (least.least (data_at other sparse.leads) (wide_solves other solves) n x y from.2 there);
  }

  -- so a kept node has the same in both least solutions
  pub least_same_at : (before after : List D) (p n : ℕ) → IsLeast F sparse.nodes before → IsLeast G sparse.small after
      → slice_get sparse.kept p ≡ Some n → slice_get after p ≡ slice_get before n
  least_same_at before after p n whole least at =
      let own = is.plan.own p n at in
      let p_inside : p < length after =
      subst (λ (c : ℕ). p < c) (sym (as_many sparse is) ∙ sym least.solution.one_each)
      (slice_get_within sparse.kept p n at) in
      let one = has_one before whole.solution n own.0 in
      let two = found-inside after p p_inside in
      let w : D = one.0 in
      let x : D = two.0 in
      let narrowed = least_narrow before whole in
      let here : slice_get (data_at before sparse.kept) p ≡ Some w = narrow_at before whole.solution p n at ∙ one.1 in
      let down : F.below w x = (alike.below w x).1 (narrowed.least after least.solution p w x here two.1) in
      let up : F.below x w =
      (alike.below x w).1 (least.least (data_at before sparse.kept) narrowed.solution p x w two.1 here) in
      let cx : F.carrier x = (alike.carrier x).1 (least.solution.within p x two.1) in
      let same : x ≡ w = laws.antisymmetric x w cx (whole.solution.within n w one.1) up down in
      two.1 ∙ (ap Some same ∙ sym one.1)
