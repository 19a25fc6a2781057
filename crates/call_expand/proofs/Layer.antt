-- One layer of the search: the points that are numbered next are the next layer.
use Rattle.std.proofs.Common.{◌≡◌, ⊎_elim, List, [], ◌∷◌, ◌++◌, map, sym, ap, ◌∙◌, subst}
use Rattle.std.specs.Prelude.{Contains, Ok, flat_map}
use Rattle.std.specs.Result.{IsOkAnd}
use Rattle.std.specs.List.{AllZip}
use Rattle.std.specs.List.Sorted.{IsPermutation, IsSorted, IsStrictlySortedBy}
use Rattle.std.specs.declared.cmp.Ordering.{Ordering}
use Rattle.std.specs.declared.cmp.Ordering.TheVariants.{Less}
use Rattle.std.proofs.lemmas.List.{map-append}
use Rattle.std.proofs.lemmas.List.Elements.{Contains-append_left, Contains-append_right, Contains-append_cases}
use Rattle.std.proofs.lemmas.List.Sorted.{Contains-permutation, IsPermutation-sym}
use Rattle.list_lemmas.proofs.Members.{has-none, has-first, has-later, has-cases, has-map, from-map, each-has, all-from_each}
use Rattle.flow_spec.specs.Program.{Program}
use Rattle.transition_spec.specs.Path.{IsSuccessor}
use Rattle.flow_spec.specs.Acceptance.{Step}
use Rattle.flow_spec.specs.Configuration.{Configuration}
use Rattle.flow_spec.specs.Order.{configuration_cmp}
use Rattle.flow_spec.specs.Successors.{Successors}
use Rattle.frame_stacks.specs.declared.stacks.StackCell.{StackCell}
use Rattle.frame_stacks.specs.Stacks.{AreCells}
use Rattle.call_expand.specs.declared.point.Point.{Point}
use Rattle.call_expand.specs.declared.point.Edges.{Edges}
use Rattle.call_expand.specs.Point.{configuration_at, configurations_at, point_cmp, IsPoint, ArePoints, points_of, IsEdge}
use Rattle.call_expand.specs.Numbers.{AreNew}
use Rattle.call_expand.specs.Search.{AreNext}
use Rattle.call_expand.proofs.Zipped.{all-append, all-map}
use Rattle.flow_spec.proofs.Decided.{same-from_equal}
use Rattle.call_expand.proofs.Ordered.{point_total, same_point}
use Rattle.call_expand.proofs.New.{new-listed, new-unseen, new-all, new-sorted}

-- a list in order by what a function gives is so given in order
sorted-map : {X Y : Type 0} (order : Y → Y → Ordering) (f : X → Y) (xs : List X)
    → IsStrictlySortedBy (λ a b. order (f a) (f b)) xs
    → IsStrictlySortedBy order (map f xs)
unfolding IsStrictlySortedBy
sorted-map order f [] sorted = tt
sorted-map order f (x ∷ xs) sorted = (all-map (λ y. order (f x) y ≡ Less) f xs sorted.0, sorted-map order f xs sorted.1)

module _ (step : Step) (program : Program) (cells : List StackCell) where
  -- a point that some edges lead to is a successor of one that they leave
  pub edge-from : (points : List Point) (edges : List Edges) (p : Point)
      → AllZip (IsEdge step program cells) points edges
      → Contains (flat_map points_of edges) p
      → (q : Point) × Contains points q × IsSuccessor step (configuration_at cells q) (configuration_at cells p)
  edge-from [] [] p each has = absurd (has-none p has)
  edge-from [] (edge ∷ edges) p each has = absurd each
  edge-from (q ∷ points) [] p each has = absurd each
  edge-from (q ∷ points) (edge ∷ edges) p each has =
      ⊎_elim
      (λ (here : Contains (points_of edge) p).
      let P : Successors → Type 0 = λ r. IsOkAnd r (λ s. Contains s (configuration_at cells p)) in
      (q, has-first q points, subst P (sym each.0.goes) (has-map (configuration_at cells) (points_of edge) p here)))
      (λ (later : Contains (flat_map points_of edges) p).
      let rest = edge-from points edges p each.1 later in (rest.0, has-later q rest.0 points rest.1, rest.2))
      (Contains-append_cases (points_of edge) (flat_map points_of edges) p has)

  -- a successor of such a one is a point that they lead to
  pub edge-to : (points : List Point) (edges : List Edges) (q : Point) (c : Configuration)
      → AllZip (IsEdge step program cells) points edges
      → Contains points q → IsSuccessor step (configuration_at cells q) c
      → (p : Point) × Contains (flat_map points_of edges) p × (configuration_at cells p ≡ c)
  edge-to [] edges q c each has follows = absurd (has-none q has)
  edge-to (first ∷ points) [] q c each has follows = absurd each
  edge-to (first ∷ points) (edge ∷ edges) q c each has follows =
      ⊎_elim
      (λ (here : q ≡ first).
      let P : Successors → Type 0 = λ r. IsOkAnd r (λ s. Contains s c) in
      let Q : Point → Type 0 = λ q. IsSuccessor step (configuration_at cells q) c in
      let goes : step (configuration_at cells first) ≡ Ok (configurations_at cells (points_of edge)) = each.0.goes in
      let p = from-map (configuration_at cells) (points_of edge) c (subst P goes (subst Q here follows)) in
      (p.0, Contains-append_left (points_of edge) (flat_map points_of edges) p.0 p.1, p.2))
      (λ (later : Contains points q).
      let rest = edge-to points edges q c each.1 later follows in
      (rest.0, Contains-append_right (points_of edge) (flat_map points_of edges) rest.0 rest.1, rest.2))
      (has-cases first q points has)

  -- the points that edges lead to are in the text, on stacks that the cells make
  pub edges-points : (points : List Point) (edges : List Edges) → AllZip (IsEdge step program cells) points edges
      → ArePoints program cells (flat_map points_of edges)
  edges-points [] [] each = tt
  edges-points [] (edge ∷ edges) each = absurd each
  edges-points (q ∷ points) [] each = absurd each
  edges-points (q ∷ points) (edge ∷ edges) each =
      all-append (IsPoint program cells) (points_of edge) (flat_map points_of edges) each.0.points
      (edges-points points edges each.1)

  module _ (before last : List Point) (more : List Edges) (found new : List Point) (are_cells : AreCells cells)
      (are_before : ArePoints program cells before) (are_last : ArePoints program cells last)
      (each : AllZip (IsEdge step program cells) last more)
      (same : IsPermutation (flat_map points_of more) found) (sorted : IsSorted (point_cmp cells) found)
      (are : AreNew (before ++ last) found new) where
    -- what is found are points
    pub are_found : ArePoints program cells found
    are_found = all-from_each (IsPoint program cells) found (λ p has.
        each-has (IsPoint program cells) (flat_map points_of more) (edges-points last more each) p
        (Contains-permutation found (flat_map points_of more) p (IsPermutation-sym (flat_map points_of more) found same)
        has))

    -- the new ones are points
    pub are_new : ArePoints program cells new
    are_new = all-from_each (IsPoint program cells) new (λ p has.
        each-has (IsPoint program cells) found are_found p (new-listed found (before ++ last) new are p has))

    -- points of one configuration among these are the same
    one_point : (a b : Point) → IsPoint program cells a → IsPoint program cells b
        → configuration_at cells a ≡ configuration_at cells b → a ≡ b
    one_point a b first second is = same_point cells a b are_cells first.known second.known is

    -- a configuration is that of a point
    before_last : configurations_at cells (before ++ last)
        ≡ configurations_at cells before ++ configurations_at cells last
    before_last = map-append (configuration_at cells) before last

    -- the new points are the next layer
    pub are_next : AreNext step configuration_cmp (configurations_at cells before) (configurations_at cells last)
        (configurations_at cells new)
    are_next = record {
      sorted =
          sorted-map configuration_cmp (configuration_at cells) new
          (new-sorted (point_cmp cells) (IsPoint program cells) (point_total cells)
          (λ a b first second tie. one_point a b first second
          (same-from_equal (configuration_at cells a) (configuration_at cells b) tie)) found
          (before ++ last) new are_found sorted are);
      follow = λ c has.
          let p = from-map (configuration_at cells) new c has in
          let listed = new-listed found (before ++ last) new are p.0 p.1 in
          let q = edge-from last more p.0 each
          (Contains-permutation found (flat_map points_of more) p.0
          (IsPermutation-sym (flat_map points_of more) found same) listed) in
          let P : Configuration → Type 0 = λ c. IsSuccessor step (configuration_at cells q.0) c in
          (configuration_at cells q.0, has-map (configuration_at cells) last q.0 q.1, subst P p.2 q.2);
      unseen = λ c has old.
          let p = from-map (configuration_at cells) new c has in
          let P : List Configuration → Type 0 = λ cs. Contains cs c in
          let q = from-map (configuration_at cells) (before ++ last) c (subst P (sym before_last) old) in
          let are_old = all-append (IsPoint program cells) before last are_before are_last in
          let one = one_point q.0 p.0 (each-has (IsPoint program cells) (before ++ last) are_old q.0 q.1)
          (each-has (IsPoint program cells) new are_new p.0 p.1) (q.2 ∙ sym p.2) in
          let Q : Point → Type 0 = λ p. Contains (before ++ last) p in
          new-unseen found (before ++ last) new are p.0 p.1 (subst Q one q.1);
      all = λ b c has follows.
          let q = from-map (configuration_at cells) last b has in
          let P : Configuration → Type 0 = λ b. IsSuccessor step b c in
          let p = edge-to last more q.0 c each q.1 (subst P (sym q.2) follows) in
          let known =
          new-all found (before ++ last) new are p.0
          (Contains-permutation (flat_map points_of more) found p.0 same p.1) in
          let Q : List Configuration → Type 0 = λ cs. Contains cs (configuration_at cells p.0) in
          let R : Configuration → Type 0 =
          λ c. Contains
          ((configurations_at cells before ++ configurations_at cells last) ++ configurations_at cells new) c in
          let whole =
          map-append (configuration_at cells) (before ++ last) new
          ∙ ap (λ cs. cs ++ configurations_at cells new) before_last in
          subst R p.2 (subst Q whole (has-map (configuration_at cells) ((before ++ last) ++ new) p.0 known));
    }
