-- The numbers at hand leave a fetch unclear exactly where the least solutions of the four systems do.
use Rattle.std.proofs.Common.{◌≡◌, ℕ, ◌<◌, ◌↔◌, Bool, true, false, not, ◌&&◌, ◌==◌, cond, inl, inr, List, length, Option, Some, None, sym, ap, subst, ◌∙◌, arith, true≢false, refl}
use Rattle.std.specs.Prelude.{nat_lt}
use Rattle.std.specs.List.{Contains}
use Rattle.std.proofs.lemmas.Bool.{cases_eq, cases_lt, cases_Bool, eq-eqb, ne_eqb, lt-ltb, le-ltb}
use Rattle.std.proofs.lemmas.Option.{same_Some, none-some}
use Rattle.cache_spec.specs.declared.start.Start.{Start}
use Rattle.cache_spec.specs.declared.start.Start.TheVariants.{Empty}
use Rattle.lattice_fix.proofs.Paths.{least_same}
use Rattle.focus_spec.specs.Younger.{fetch_at}
use Rattle.set_view.specs.View.{View, IsView}
use Rattle.age_spec.specs.declared.kind.Kind.TheVariants.{Must, May}
use Rattle.age_spec.specs.Ages.{age_framework, setting_of, AreMustAges, AreMayAges, age_of, age_at}
use Rattle.age_spec.specs.Exists.{hit_framework, miss_framework, AreHitBounds, AreMissBounds}
use Rattle.age_spec.specs.Settled.{IsUnclear, HasUnclear}
use Rattle.age_spec.proofs.Monotone.{ages_monotone}
use Rattle.age_spec.proofs.Reaching.{hit_monotone, miss_monotone}
use Rattle.age_exists.specs.Columns.{column_at, AreHitColumns, AreMissColumns}
use Rattle.age_exists.specs.Unclear.{Numbers, is_unclear, unclear_at, unclear_of, unclear_fetch, AreMarks, AreMarked}
use Rattle.age_exists.proofs.Own.{fetch_inside}

-- a number that equals another, or is below it, as a flag
eq-from : (x y : ℕ) → (x == y) ≡ true → x ≡ y
eq-from x y is = elim (cases_eq x y) [
  | inl same ↦ same
  | inr apart ↦ absurd (true≢false (sym is ∙ ne_eqb x y apart))
]

lt-from : (x y : ℕ) → nat_lt x y ≡ true → x < y
lt-from x y is = elim (cases_lt x y) [
  | inl less ↦ less
  | inr more ↦ absurd (true≢false (sym is ∙ le-ltb x y more))
]

-- both of two flags
both : (a b : Bool) → a && b ≡ true → (a ≡ true) × (b ≡ true)
both true b is = (refl, is)
both false b is = absurd (true≢false (sym is))

-- flags that make a fetch unclear say so
unclear-from : (ways must may hit miss : ℕ) → is_unclear ways must may hit miss ≡ true
    → IsUnclear ways must may hit miss
unclear-from ways must may hit miss is =
    let first = both (must == ways) (nat_lt may ways && not (nat_lt hit ways && (miss == ways))) is in
    let second = both (nat_lt may ways) (not (nat_lt hit ways && (miss == ways))) first.1 in
    record {
      not_hit = eq-from must ways first.0;
      not_miss = lt-from may ways second.0;
      not_both = λ can_hit can_miss.
          let shown : (nat_lt hit ways && (miss == ways)) ≡ true =
          ap (λ (b : Bool). b && (miss == ways)) (lt-ltb hit ways can_hit) ∙ eq-eqb miss ways can_miss in
          true≢false (sym second.1 ∙ ap not shown);
    }

-- bounds of which not both show a path
not-both : (ways hit miss : ℕ) → (hit < ways → miss ≡ ways → ⊥) → not (nat_lt hit ways && (miss == ways)) ≡ true
not-both ways hit miss none = elim (cases_lt hit ways) [
  | inl less ↦
      ap (λ (b : Bool). not (b && (miss == ways))) (lt-ltb hit ways less)
      ∙ ap not (ne_eqb miss ways (λ same. none less same))
  | inr more ↦ ap (λ (b : Bool). not (b && (miss == ways))) (le-ltb hit ways more)
]

-- and the other way
unclear-flags : (ways must may hit miss : ℕ) → IsUnclear ways must may hit miss
    → is_unclear ways must may hit miss ≡ true
unclear-flags ways must may hit miss unclear =
    ap (λ (b : Bool). b && (nat_lt may ways && not (nat_lt hit ways && (miss == ways))))
    (eq-eqb must ways unclear.not_hit)
    ∙ (ap (λ (b : Bool). b && not (nat_lt hit ways && (miss == ways))) (lt-ltb may ways unclear.not_miss)
    ∙ not-both ways hit miss unclear.not_both)

-- a block with an unclear fetch is fetched, and the fetch is unclear
unclear-fetched : (view : View) (f : Numbers) (n : ℕ) (fetch : Option ℕ) (local : ℕ)
    → unclear_of view f n fetch ≡ Some local → (fetch ≡ Some local) × (unclear_at view f n local ≡ true)
unclear-fetched view f n None local is = absurd (none-some local is)
unclear-fetched view f n (Some other) local is = elim (cases_Bool (unclear_at view f n other)) [
  | inl unclear ↦
      let same : other ≡ local =
      same_Some other local (sym (ap (λ (b : Bool). cond b (Some other) None) unclear) ∙ is) in
      (ap Some same, subst (λ (k : ℕ). unclear_at view f n k ≡ true) same unclear)
  | inr settled ↦ absurd (none-some local (sym (ap (λ (b : Bool). cond b (Some other) None) settled) ∙ is))
]

module _ (view : View) (is : IsView view) (start : Start) (f : Numbers) (must : AreMustAges view f.must)
    (may : AreMayAges view start f.may) (hit : AreHitColumns view start f.must f.hit)
    (miss : AreMissColumns view f.may f.miss) where
  -- a fetch that the numbers leave unclear is one by the four least solutions
  pub unclear_sound : (n local : ℕ) → unclear_fetch view f n ≡ Some local → HasUnclear view start local
  unclear_sound n local found =
      let both = unclear-fetched view f n (fetch_at view.fetches n) local found in
      let known : local < length view.blocks = is.within n local both.0 in
      record {
        must = f.must;
        may = f.may;
        hit = column_at f.hit local;
        miss = column_at f.miss local;
        four = record {
          must_ages = must;
          may_ages = may;
          hit_bounds = hit.each local known;
          miss_bounds = miss.each local known;
        };
        node = n;
        unclear = record {
          fetches = both.0;
          unclear = unclear-from view.geometry.ways (age_of f.must n local) (age_of f.may n local)
              (age_at (column_at f.hit local) n) (age_at (column_at f.miss local) n) both.1;
        };
      }

  -- and the other way, since each system has one least solution
  pub unclear_complete : (local : ℕ) → (has : HasUnclear view start local) → unclear_fetch view f has.node ≡ Some local
  unclear_complete local has =
      let n : ℕ = has.node in
      let known : local < length view.blocks = is.within n local has.unclear.fetches in
      let must_is : has.must ≡ f.must =
      least_same (age_framework (setting_of view Must Empty)) (ages_monotone (setting_of view Must Empty)) view.nodes
      has.must f.must has.four.must_ages must in
      let may_is : has.may ≡ f.may =
      least_same (age_framework (setting_of view May start)) (ages_monotone (setting_of view May start)) view.nodes
      has.may f.may has.four.may_ages may in
      let hit_is : has.hit ≡ column_at f.hit local =
      least_same (hit_framework view start f.must local) (hit_monotone view start f.must local) view.nodes
      has.hit (column_at f.hit local)
      (subst (λ (ages : List (List ℕ)). AreHitBounds view start ages local has.hit) must_is has.four.hit_bounds)
      (hit.each local known) in
      let miss_is : has.miss ≡ column_at f.miss local =
      least_same (miss_framework view f.may local) (miss_monotone view f.may local) view.nodes
      has.miss (column_at f.miss local)
      (subst (λ (ages : List (List ℕ)). AreMissBounds view ages local has.miss) may_is has.four.miss_bounds)
      (miss.each local known) in
      let k : ℕ = view.geometry.ways in
      let unclear : is_unclear k (age_of f.must n local) (age_of f.may n local) (age_at (column_at f.hit local) n)
      (age_at (column_at f.miss local) n) ≡ true =
      sym (ap (λ (ages : List (List ℕ)). is_unclear k (age_of ages n local) (age_of has.may n local) (age_at has.hit n)
      (age_at has.miss n)) must_is
      ∙ (ap (λ (ages : List (List ℕ)). is_unclear k (age_of f.must n local) (age_of ages n local) (age_at has.hit n)
      (age_at has.miss n)) may_is
      ∙ (ap (λ (bounds : List ℕ). is_unclear k (age_of f.must n local) (age_of f.may n local) (age_at bounds n)
      (age_at has.miss n)) hit_is
      ∙ ap (λ (bounds : List ℕ). is_unclear k (age_of f.must n local) (age_of f.may n local)
      (age_at (column_at f.hit local) n) (age_at bounds n)) miss_is)))
      ∙ unclear-flags k (age_of has.must n local) (age_of has.may n local) (age_at has.hit n) (age_at has.miss n)
      has.unclear.unclear in
      ap (unclear_of view f n) has.unclear.fetches ∙ ap (λ (b : Bool). cond b (Some local) None) unclear

  -- so the places of the marks are the blocks with an unclear fetch
  pub marked_unclear : (marks : List Bool) (locals : List ℕ) → AreMarks view f (length view.nodes) marks
      → AreMarked marks (length marks) locals → (local : ℕ) → Contains locals local ↔ HasUnclear view start local
  marked_unclear marks locals are marked local = (
    λ there.
        let found = are.sound local ((marked.members local).0 there).1 in
        unclear_sound found.0 local found.2,
    λ has.
        let known : local < length view.blocks = is.within has.node local has.unclear.fetches in
        let inside : has.node < length view.nodes =
        omega (arith, fetch_inside view has.node local has.unclear.fetches, is.one_each) in
        (marked.members local).1 (
          omega (arith, known, are.one_each),
          are.complete has.node local inside (unclear_complete local has),
        ),
  )
