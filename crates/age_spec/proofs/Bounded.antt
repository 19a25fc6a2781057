-- Ages bound the places of blocks on each path.
use Rattle.std.proofs.Common.{◌≡◌, ℕ, ◌<◌, ◌≤◌, Bool, true, false, cond, ◌==◌, List, [], ◌∷◌, length, map, Option, Some, None, refl, sym, ap, ◌∙◌, subst, inl, inr, arith}
use Rattle.std.specs.Prelude.{option_map}
use Rattle.std.proofs.lemmas.Bool.{cases_eq, eq-eqb, ne_eqb}
use Rattle.std.proofs.lemmas.Option.{get_or_from_slice_get}
use Rattle.list_lemmas.proofs.Members.{found-inside}
use Rattle.transition_spec.specs.Path.{IsPath}
use Rattle.path_model.specs.Graph.{graph_step, address_of}
use Rattle.cache_spec.specs.declared.start.Start.{Start}
use Rattle.cache_spec.specs.declared.start.Start.TheVariants.{Empty, Any}
use Rattle.cache_spec.specs.Geometry.{Geometry, block_of, set_of}
use Rattle.cache_spec.specs.Lru.{touch, is_in}
use Rattle.cache_spec.specs.Contents.{contents}
use Rattle.cache_spec.specs.Blocks.{block_in}
use Rattle.cache_spec.specs.Distinct.{AreDistinct}
use Rattle.cache_spec.specs.Start.{IsStartList, CanEnd}
use Rattle.focus_spec.specs.Younger.{named, fetch_at}
use Rattle.set_view.specs.View.{View, IsView}
use Rattle.lattice_fix.specs.Along.{along}
use Rattle.lattice_fix.specs.Solution.{IsSolution}
use Rattle.lattice_fix.proofs.Edges.{edge_inside}
use Rattle.lattice_fix.proofs.Paths.{along_within, along_below}
use Rattle.age_spec.specs.declared.kind.Kind.{Kind}
use Rattle.age_spec.specs.declared.kind.Kind.TheVariants.{Must, May}
use Rattle.age_spec.specs.Ages.{Setting, setting_of, AreAges, age_framework, first_age, aged, age_at, ages_after, IsBelow, age_of, AreRows}
use Rattle.age_spec.specs.Sound.{kept_after, place_after, BoundPlaces, NoneEnds}
use Rattle.age_spec.proofs.Places.{among, place-among, among-few, among-empty, among-apart, among-touch, among-touched, among-in, among-out}
use Rattle.age_spec.proofs.Numbers.{aged_bounds, below_same, below_trans}
use Rattle.age_spec.proofs.Lists.{at-after}
use Rattle.age_spec.proofs.Monotone.{at-first, ages_monotone}
use Rattle.age_spec.proofs.Kept.{touched, contents-more, start-distinct, start-few, contents-distinct, contents-few, named-apart, block_in-some}

-- ages bound the places of the local blocks in a list
abbrev Bound : Kind → ℕ → List ℕ → List ℕ → List ℕ → Type 0
Bound kind k blocks kept ages = (local : ℕ) → local < length blocks
    → IsBelow kind (among k kept (named blocks local)) (age_at ages local)

-- the fetched block's own age
bound-own : (kind : Kind) (k : ℕ) (kept : List ℕ) (a b age : ℕ) (same : Bool) → a ≡ b → same ≡ true
    → IsBelow kind (among k (touch k kept a) b) (cond same 0 age)
bound-own kind k kept a b age same equal is =
    let zero_place : among k (touch k kept a) b ≡ 0 =
    ap (λ (c : ℕ). among k (touch k kept a) c) (sym equal) ∙ among-touched k kept a in
    subst (λ (n : ℕ). IsBelow kind n (cond same 0 age)) (sym zero_place)
    (subst (IsBelow kind 0) (sym (ap (λ (s : Bool). cond s 0 age) is)) (below_same kind 0))

-- after a node they bound the places there
bound-after : (kind : Kind) (k : ℕ) (blocks kept ages : List ℕ) (fetch : Option ℕ) → 1 ≤ k → AreDistinct kept
    → ((a b : ℕ) → a < length blocks → b < length blocks → named blocks a ≡ named blocks b → a ≡ b)
    → ((a : ℕ) → fetch ≡ Some a → a < length blocks)
    → AreAges (length blocks) k ages → Bound kind k blocks kept ages
    → Bound kind k blocks (touched k (option_map (named blocks) fetch) kept) (ages_after kind k fetch ages)
bound-after kind k blocks kept ages None some distinct apart known are bound = bound
bound-after kind k blocks kept ages (Some a) some distinct apart known are bound = λ local inside.
    let x : ℕ = named blocks a in
    let y : ℕ = named blocks local in
    let age : ℕ = aged kind k (age_at ages a) (age_at ages local) in
    let a_inside : a < length blocks = known a refl in
    subst (IsBelow kind (among k (touch k kept x) y))
    (sym (at-after kind k a ages local (omega (arith, inside, are.one_each))))
    (elim (cases_eq local a) [
      | inl same ↦ bound-own kind k kept x y age (local == a) (sym (ap (named blocks) same)) (eq-eqb local a same)
      | inr other ↦
          let different : (x ≡ y → ⊥) = λ same. other (sym (apart a local a_inside inside same)) in
          subst (IsBelow kind (among k (touch k kept x) y)) (sym (ap (λ (s : Bool). cond s 0 age) (ne_eqb local a other)))
          (aged_bounds kind k (among k kept x) (among k kept y) (among k (touch k kept x) y) (age_at ages a)
          (age_at ages local) (among-touch k kept x y some distinct different) (among-apart k kept x y different)
          (among-few k (touch k kept x) y) (among-few k kept x) (among-few k kept y)
          (bound a a_inside) (bound local inside))
    ])

-- the first age bounds each place in what the set may start with
first-bound : (kind : Kind) (start : Start) (g : Geometry) (set : ℕ) (held : List ℕ) (block : ℕ)
    → IsStartList g start set held → IsBelow kind (among g.ways held block) (first_age kind start g.ways)
first-bound Must start g set held block starts = among-few g.ways held block
first-bound May Any g set held block starts = omega arith
first-bound May Empty g set held block starts =
    omega (arith, ap (λ (l : List ℕ). among g.ways l block) starts, among-empty g.ways block)

module _ (view : View) (is : IsView view) (start : Start) where
  -- on each path the place of a local block is among the ways
  place_is : (held earlier : List ℕ) (local : ℕ) → IsStartList view.geometry start view.set held
      → place_after view held earlier local
      ≡ among view.geometry.ways (kept_after view held earlier) (named view.blocks local)
  place_is held earlier local starts =
      place-among view.geometry.ways (kept_after view held earlier) (named view.blocks local)
      (contents-few view.geometry view.set held (map (address_of view.nodes) earlier)
      (start-few view.geometry start view.set held starts))

  module _ (kind : Kind) where
    abbrev G : Setting
    G = setting_of view kind start

    -- what is moved along a path bounds the places at its end
    along_bounds : (held : List ℕ) (n : ℕ) (earlier : List ℕ) → IsStartList view.geometry start view.set held
        → IsPath (graph_step view.nodes) 0 (n ∷ earlier)
        → Bound kind view.geometry.ways view.blocks (kept_after view held earlier) (along (age_framework G) (n ∷ earlier))
    along_bounds held n [] starts path = λ local inside.
        subst (IsBelow kind (among view.geometry.ways held (named view.blocks local)))
        (sym (at-first (length view.blocks) (first_age kind start view.geometry.ways) local inside))
        (first-bound kind start view.geometry view.set held (named view.blocks local) starts)
    along_bounds held m (n ∷ earlier) starts path =
        let F = age_framework G in
        let k : ℕ = view.geometry.ways in
        let addresses : List ℕ = map (address_of view.nodes) earlier in
        let inside : n < length view.nodes = (edge_inside view.nodes is.graph n m path.0).0 in
        let kept : List ℕ = kept_after view held earlier in
        let ages : List ℕ = along F (n ∷ earlier) in
        let distinct : AreDistinct kept = contents-distinct view.geometry view.set held addresses
        (start-distinct view.geometry start view.set held starts) in
        let next = bound-after kind k view.blocks kept ages (fetch_at view.fetches n) is.some_ways distinct
        (named-apart view is) (λ a fetches. is.within n a fetches) (along_within F (ages_monotone G) (n ∷ earlier))
        (along_bounds held n earlier starts path.1) in
        let more : kept_after view held (n ∷ earlier)
        ≡ touched k (option_map (named view.blocks) (fetch_at view.fetches n)) kept =
        contents-more view.geometry view.set held (address_of view.nodes n) addresses
        ∙ ap (λ (o : Option ℕ). touched k o kept) (sym (is.fetches n inside)) in
        subst (λ (l : List ℕ). Bound kind k view.blocks l (ages_after kind k (fetch_at view.fetches n) ages)) (sym more)
        next

    -- a node in which a path ends is one of the graph
    end_inside : (n : ℕ) (earlier : List ℕ) → IsPath (graph_step view.nodes) 0 (n ∷ earlier) → n < length view.nodes
    end_inside n [] path = omega (arith, path, is.graph.some)
    end_inside m (n ∷ earlier) path = (edge_inside view.nodes is.graph n m path.0).1

    -- a solution has ages for each node
    pub solution_rows : (ages : List (List ℕ)) → IsSolution (age_framework G) view.nodes ages → AreRows view ages
    solution_rows ages solution = record {
      one_each = solution.one_each;
      rows = λ n inside.
          let found = found-inside ages n (omega (arith, inside, solution.one_each)) in
          subst (AreAges (length view.blocks) view.geometry.ways) (sym (get_or_from_slice_get ages n found.0 [] found.1))
          (solution.within n found.0 found.1);
    }

    -- and bounds the places on each path
    pub solution_bounds : (ages : List (List ℕ)) → IsSolution (age_framework G) view.nodes ages
        → BoundPlaces view kind start ages
    solution_bounds ages solution n local held earlier inside starts path =
        let F = age_framework G in
        let k : ℕ = view.geometry.ways in
        let found = found-inside ages n (omega (arith, end_inside n earlier path, solution.one_each)) in
        let here : List ℕ = found.0 in
        let moved : List ℕ = along F (n ∷ earlier) in
        let place : ℕ = among k (kept_after view held earlier) (named view.blocks local) in
        let below = along_below F (ages_monotone G) view.nodes is.graph ages solution n earlier here path found.1 in
        let same : age_of ages n local ≡ age_at here local =
        ap (λ (l : List ℕ). age_at l local) (get_or_from_slice_get ages n here [] found.1) in
        subst (λ (p : ℕ). IsBelow kind p (age_of ages n local)) (sym (place_is held earlier local starts))
        (subst (IsBelow kind place) (sym same)
        (below_trans kind place (age_at moved local) (age_at here local)
        (along_bounds held n earlier starts path local inside) (below local)))

  -- a local block that is kept has a place below the ways
  place_in : (held earlier : List ℕ) (local : ℕ) → IsStartList view.geometry start view.set held
      → is_in (kept_after view held earlier) (named view.blocks local) ≡ true
      → place_after view held earlier local < view.geometry.ways
  place_in held earlier local starts there =
      let few = contents-few view.geometry view.set held (map (address_of view.nodes) earlier)
      (start-few view.geometry start view.set held starts) in
      omega (
        arith,
        place_is held earlier local starts,
        among-in view.geometry.ways (kept_after view held earlier) (named view.blocks local) few there,
      )

  -- and one that isn't has the ways
  place_out : (held earlier : List ℕ) (local : ℕ) → IsStartList view.geometry start view.set held
      → is_in (kept_after view held earlier) (named view.blocks local) ≡ false
      → place_after view held earlier local ≡ view.geometry.ways
  place_out held earlier local starts absent =
      place_is held earlier local starts
      ∙ among-out view.geometry.ways (kept_after view held earlier) (named view.blocks local) absent

  -- the end of a path is a hit where the set keeps the block that the last node fetches
  end_is : (n local : ℕ) (earlier : List ℕ) (hits : Bool) → n < length view.nodes
      → fetch_at view.fetches n ≡ Some local
      → CanEnd view.geometry start (map (address_of view.nodes) (n ∷ earlier)) hits
      → (held : List ℕ) × IsStartList view.geometry start view.set held
      × (is_in (kept_after view held earlier) (named view.blocks local) ≡ hits)
  end_is n local earlier hits inside fetches ends =
      let g = view.geometry in
      let address : ℕ = address_of view.nodes n in
      let addresses : List ℕ = map (address_of view.nodes) earlier in
      let lies : block_in g view.set address ≡ Some (named view.blocks local) =
      sym (is.fetches n inside) ∙ ap (option_map (named view.blocks)) fetches in
      let both = block_in-some g view.set address (named view.blocks local) lies in (
        ends.0,
        subst (λ (set : ℕ). IsStartList g start set ends.0) both.0 ends.1,
        ap (λ (set : ℕ). is_in (contents g set ends.0 addresses) (named view.blocks local)) (sym both.0)
            ∙ (ap (is_in (contents g (set_of g (block_of g address)) ends.0 addresses)) (sym both.1) ∙ ends.2),
      )

  -- a must age below the ways: no path misses
  pub must_hits : (ages : List (List ℕ)) (n local : ℕ) → BoundPlaces view Must start ages
      → fetch_at view.fetches n ≡ Some local → age_of ages n local < view.geometry.ways → NoneEnds view start n false
  must_hits ages n local bounds fetches young earlier path ends =
      let end = end_is n local earlier false (end_inside Must n earlier path) fetches ends in
      let above = bounds n local end.0 earlier (is.within n local fetches) end.1 path in
      absurd (omega (arith, young, place_out end.0 earlier local end.1 end.2, above))

  -- a may age of the ways: no path hits
  pub may_misses : (ages : List (List ℕ)) (n local : ℕ) → BoundPlaces view May start ages
      → fetch_at view.fetches n ≡ Some local → age_of ages n local ≡ view.geometry.ways → NoneEnds view start n true
  may_misses ages n local bounds fetches old earlier path ends =
      let end = end_is n local earlier true (end_inside May n earlier path) fetches ends in
      let below = bounds n local end.0 earlier (is.within n local fetches) end.1 path in
      absurd (omega (arith, old, place_in end.0 earlier local end.1 end.2, below))
