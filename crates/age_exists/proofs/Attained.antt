-- Along each path, from a list that attests it, the bound that is moved is met by the place of the block.
use Rattle.std.proofs.Common.{◌≡◌, ℕ, zero, suc, ◌<◌, ◌≤◌, Bool, true, false, cond, ◌==◌, List, [], ◌∷◌, length, map, Option, Some, None, refl, sym, ap, ◌∙◌, subst, inl, inr, arith}
use Rattle.std.specs.Prelude.{option_map}
use Rattle.std.proofs.lemmas.Bool.{cases_eq, cases_Bool, eq-eqb, ne_eqb}
use Rattle.std.proofs.lemmas.List.Elements.{Contains-get_or}
use Rattle.list_lemmas.proofs.Members.{has-none, has-only}
use Rattle.transition_spec.specs.Path.{IsPath}
use Rattle.path_model.specs.Graph.{graph_step, address_of}
use Rattle.cache_spec.specs.declared.start.Start.{Start}
use Rattle.cache_spec.specs.declared.start.Start.TheVariants.{Empty, Any}
use Rattle.cache_spec.specs.Geometry.{Geometry, block_of, set_of}
use Rattle.cache_spec.specs.Lru.{touch, is_in}
use Rattle.cache_spec.specs.Contents.{contents}
use Rattle.cache_spec.specs.Blocks.{block_in}
use Rattle.cache_spec.specs.Distinct.{AreDistinct}
use Rattle.cache_spec.specs.Start.{MayHold, IsStartList, CanEnd}
use Rattle.focus_spec.specs.Younger.{named, fetch_at}
use Rattle.set_view.specs.View.{View, IsView}
use Rattle.lattice_fix.specs.Framework.{Framework}
use Rattle.lattice_fix.specs.Along.{along}
use Rattle.lattice_fix.proofs.Edges.{edge_inside}
use Rattle.age_spec.specs.Ages.{aged, IsBelow, age_of}
use Rattle.age_spec.specs.Exists.{bound_after}
use Rattle.age_spec.specs.Settled.{IsShown}
use Rattle.age_spec.specs.Sound.{kept_after, BoundPlaces}
use Rattle.age_spec.proofs.Places.{among, place-among, among-few, among-empty, among-apart, among-touch, among-touched, among-in, among-out}
use Rattle.age_spec.proofs.Numbers.{aged_bounds, below_same}
use Rattle.age_spec.proofs.Kept.{touched, contents-more, start-distinct, start-few, contents-distinct, contents-few, named-apart, block_in-some}
use Rattle.age_spec.proofs.Reaching.{hit_is_aged, miss_is_aged}
use Rattle.age_exists.specs.Equations.{kind_of, first_bound, bound_changed, exists_framework}

-- what the set holds at first on a path that attests a bound: the block alone for exists-hit where it may hold
-- anything, else nothing
abbrev pub witness_list : Bool → Start → ℕ → List ℕ
witness_list true Any block = block ∷ []
witness_list true Empty block = []
witness_list false start block = []

-- the set may start with it
nothing-held : (g : Geometry) (set : ℕ) → MayHold g set []
nothing-held g set = record { own = λ block has. absurd (has-none block has); distinct = tt; few = omega arith }

one-held : (g : Geometry) (set block : ℕ) → 1 ≤ g.ways → set_of g block ≡ set → MayHold g set (block ∷ [])
one-held g set block some lies = record {
  own = λ other has. ap (set_of g) (has-only block other has) ∙ lies;
  distinct = (refl, tt);
  few = omega (arith, some);
}

list-starts : (hits : Bool) (start : Start) (g : Geometry) (set block : ℕ) → 1 ≤ g.ways → set_of g block ≡ set
    → IsStartList g start set (witness_list hits start block)
list-starts true Any g set block some lies = one-held g set block some lies
list-starts true Empty g set block some lies = refl
list-starts false Any g set block some lies = nothing-held g set
list-starts false Empty g set block some lies = refl

-- the place of a block that is held alone
among-alone : (k block : ℕ) → among k (block ∷ []) block ≡ 0
among-alone zero block = refl
among-alone (suc k) block = ap (λ (b : Bool). cond b 0 (suc (among k [] block))) (eq-eqb block block refl)

-- there the bound at node 0 is met
first-met : (hits : Bool) (start : Start) (k block : ℕ)
    → IsBelow (kind_of hits) (among k (witness_list hits start block) block) (first_bound hits start k)
first-met true Any k block = omega (arith, among-alone k block)
first-met true Empty k block = among-few k [] block
first-met false start k block = omega (arith, among-empty k block)

-- a bound changes as ages do
changed-is-aged : (hits : Bool) (k age bound : ℕ) → bound_changed hits k age bound ≡ aged (kind_of hits) k age bound
changed-is-aged true k age bound = hit_is_aged k age bound
changed-is-aged false k age bound = miss_is_aged k age bound

-- a place that meets a bound that shows something bears it out
bears-out : (hits : Bool) (k place bound : ℕ) (kept : Bool) → (kept ≡ true → place < k) → (kept ≡ false → place ≡ k)
    → IsBelow (kind_of hits) place bound → IsShown hits k bound → kept ≡ hits
bears-out true k place bound kept inside outside met shown = elim (cases_Bool kept) [
  | inl there ↦ there
  | inr absent ↦ absurd (omega (arith, outside absent, met, shown))
]
bears-out false k place bound kept inside outside met shown = elim (cases_Bool kept) [
  | inl there ↦ absurd (omega (arith, inside there, met, shown))
  | inr absent ↦ absent
]

module _ (view : View) (is : IsView view) (hits : Bool) (start : Start) (ages : List (List ℕ))
    (sound : BoundPlaces view (kind_of hits) start ages) (block : ℕ) (known : block < length view.blocks) where
  abbrev K : ℕ
  K = view.geometry.ways

  abbrev F : Framework ℕ
  F = exists_framework hits view start ages block

  -- the block, and what the set holds at first
  abbrev Own : ℕ
  Own = named view.blocks block

  abbrev First : List ℕ
  First = witness_list hits start Own

  -- the block lies in the set
  own-lies : set_of view.geometry Own ≡ view.set
  own-lies =
      let lies = (is.blocks.members Own).0 (Contains-get_or view.blocks block 0 known) in
      let both = block_in-some view.geometry view.set lies.0 Own lies.2 in
      ap (set_of view.geometry) (sym both.1) ∙ both.0

  first-starts : IsStartList view.geometry start view.set First
  first-starts = list-starts hits start view.geometry view.set Own is.some_ways own-lies

  -- no list there has more blocks than the ways
  few-kept : (earlier : List ℕ) → length (kept_after view First earlier) ≤ K
  few-kept earlier = contents-few view.geometry view.set First (map (address_of view.nodes) earlier)
      (start-few view.geometry start view.set First first-starts)

  -- the ages bound the places there
  ages-bound : (n : ℕ) (earlier : List ℕ) → IsPath (graph_step view.nodes) 0 (n ∷ earlier) → (local : ℕ)
      → local < length view.blocks
      → IsBelow (kind_of hits) (among K (kept_after view First earlier) (named view.blocks local)) (age_of ages n local)
  ages-bound n earlier path local inside =
      subst (λ (p : ℕ). IsBelow (kind_of hits) p (age_of ages n local))
      (place-among K (kept_after view First earlier) (named view.blocks local) (few-kept earlier))
      (sound n local First earlier inside first-starts path)

  -- after a node the bound that it leaves is met
  after-met : (n : ℕ) (kept : List ℕ) (bound : ℕ) (fetch : Option ℕ) → AreDistinct kept
      → fetch_at view.fetches n ≡ fetch
      → ((local : ℕ) → local < length view.blocks
      → IsBelow (kind_of hits) (among K kept (named view.blocks local)) (age_of ages n local))
      → IsBelow (kind_of hits) (among K kept Own) bound
      → IsBelow (kind_of hits) (among K (touched K (option_map (named view.blocks) fetch) kept) Own)
      (bound_after (λ other. bound_changed hits K (age_of ages n other)) block fetch bound)
  after-met n kept bound None distinct fetches each met = met
  after-met n kept bound (Some other) distinct fetches each met =
      let x : ℕ = named view.blocks other in
      let age : ℕ = age_of ages n other in
      let there : other < length view.blocks = is.within n other fetches in
      let changed : ℕ = bound_changed hits K age bound in
      elim (cases_eq other block) [
        | inl equal ↦
            let zero_place : among K (touch K kept x) Own ≡ 0 =
            ap (λ (l : ℕ). among K (touch K kept x) (named view.blocks l)) (sym equal) ∙ among-touched K kept x in
            subst (λ (p : ℕ). IsBelow (kind_of hits) p (cond (other == block) 0 changed)) (sym zero_place)
            (subst (IsBelow (kind_of hits) 0) (sym (ap (λ (b : Bool). cond b 0 changed) (eq-eqb other block equal)))
            (below_same (kind_of hits) 0))
        | inr apart ↦
            let different : (x ≡ Own → ⊥) = λ same. apart (named-apart view is other block there known same) in
            subst (IsBelow (kind_of hits) (among K (touch K kept x) Own))
            (sym (ap (λ (b : Bool). cond b 0 changed) (ne_eqb other block apart) ∙ changed-is-aged hits K age bound))
            (aged_bounds (kind_of hits) K (among K kept x) (among K kept Own) (among K (touch K kept x) Own) age bound
            (among-touch K kept x Own is.some_ways distinct different) (among-apart K kept x Own different)
            (among-few K (touch K kept x) Own) (among-few K kept x) (among-few K kept Own) (each other there) met)
      ]

  -- so what is moved along a path is met at its end
  along-met : (n : ℕ) (earlier : List ℕ) → IsPath (graph_step view.nodes) 0 (n ∷ earlier)
      → IsBelow (kind_of hits) (among K (kept_after view First earlier) Own) (along F (n ∷ earlier))
  along-met n [] path = first-met hits start K Own
  along-met m (n ∷ earlier) path =
      let kept : List ℕ = kept_after view First earlier in
      let addresses : List ℕ = map (address_of view.nodes) earlier in
      let inside : n < length view.nodes = (edge_inside view.nodes is.graph n m path.0).0 in
      let distinct : AreDistinct kept = contents-distinct view.geometry view.set First addresses
      (start-distinct view.geometry start view.set First first-starts) in
      let bound : ℕ = along F (n ∷ earlier) in
      let next = after-met n kept bound (fetch_at view.fetches n) distinct refl (ages-bound n earlier path.1)
      (along-met n earlier path.1) in
      let more : kept_after view First (n ∷ earlier)
      ≡ touched K (option_map (named view.blocks) (fetch_at view.fetches n)) kept =
      contents-more view.geometry view.set First (address_of view.nodes n) addresses
      ∙ ap (λ (o : Option ℕ). touched K o kept) (sym (is.fetches n inside)) in
      subst (λ (l : List ℕ). IsBelow (kind_of hits) (among K l Own) (F.transfer n bound)) (sym more) next

  -- where a node fetches the block, a path that moves a bound that shows something can end so
  pub along_ends : (n : ℕ) (earlier : List ℕ) → n < length view.nodes → fetch_at view.fetches n ≡ Some block
      → IsPath (graph_step view.nodes) 0 (n ∷ earlier) → IsShown hits K (along F (n ∷ earlier))
      → CanEnd view.geometry start (map (address_of view.nodes) (n ∷ earlier)) hits
  along_ends n earlier inside fetches path shown =
      let g = view.geometry in
      let address : ℕ = address_of view.nodes n in
      let addresses : List ℕ = map (address_of view.nodes) earlier in
      let kept : List ℕ = kept_after view First earlier in
      let lies : block_in g view.set address ≡ Some Own =
      sym (is.fetches n inside) ∙ ap (option_map (named view.blocks)) fetches in
      let both = block_in-some g view.set address Own lies in
      let fate : is_in kept Own ≡ hits =
      bears-out hits K (among K kept Own) (along F (n ∷ earlier)) (is_in kept Own)
      (λ there. among-in K kept Own (few-kept earlier) there) (λ absent. among-out K kept Own absent)
      (along-met n earlier path) shown in (
        First,
        subst (λ (set : ℕ). IsStartList g start set First) (sym both.0) first-starts,
        ap (λ (set : ℕ). is_in (contents g set First addresses) (block_of g address)) both.0
            ∙ (ap (is_in kept) both.1 ∙ fate),
      )
