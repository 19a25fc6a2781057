-- Each view has the least solutions of its four systems.
use Rattle.std.proofs.Common.{◌≡◌, ◌≢◌, ◌⊎◌, ℕ, List, [], ◌∷◌, refl, ap, ◌∙◌, inl, inr}
use Rattle.std.proofs.lemmas.Bool.{cases_eq}
use Rattle.cache_spec.specs.declared.start.Start.{Start}
use Rattle.cache_spec.specs.declared.start.Start.TheVariants.{Empty}
use Rattle.set_view.specs.View.{View, IsView}
use Rattle.age_spec.specs.declared.kind.Kind.TheVariants.{Must, May}
use Rattle.age_spec.specs.Ages.{setting_of, age_framework, AreMustAges, AreMayAges}
use Rattle.age_spec.specs.Exists.{hit_framework, miss_framework, AreHitBounds, AreMissBounds}
use Rattle.age_spec.specs.Settled.{AreFour}
use Rattle.age_spec.proofs.Monotone.{ages_monotone}
use Rattle.age_spec.proofs.Reaching.{hit_monotone, miss_monotone}
use Rattle.age_spec.proofs.Rising.{least_exists}

-- two lists of ages are the same or not
same_ages : (one two : List ℕ) → (one ≡ two) ⊎ (one ≢ two)
same_ages [] [] = inl refl
same_ages [] (y ∷ two) = inr (λ same. cc)
same_ages (x ∷ one) [] = inr (λ same. cc)
same_ages (x ∷ one) (y ∷ two) = elim (cases_eq x y) [
  | inl first ↦ elim (same_ages one two) [
    | inl rest ↦ inl (ap (λ (n : ℕ). n ∷ one) first ∙ ap (λ (ages : List ℕ). y ∷ ages) rest)
    | inr apart ↦ inr (λ same. apart (cc))
  ]
  | inr apart ↦ inr (λ same. apart (cc))
]

-- must ages exist
pub must_exist : (view : View) → IsView view → (must : List (List ℕ)) × AreMustAges view must
must_exist view is =
    let setting = setting_of view Must Empty in
    least_exists (age_framework setting) (ages_monotone setting) view.nodes is.graph same_ages

-- may ages exist
pub may_exist : (view : View) → IsView view → (start : Start) → (may : List (List ℕ)) × AreMayAges view start may
may_exist view is start =
    let setting = setting_of view May start in
    least_exists (age_framework setting) (ages_monotone setting) view.nodes is.graph same_ages

-- exists-hit bounds exist over any must ages
pub hit_exist : (view : View) → IsView view → (start : Start) (must : List (List ℕ)) (local : ℕ)
    → (hit : List ℕ) × AreHitBounds view start must local hit
hit_exist view is start must local =
    least_exists (hit_framework view start must local) (hit_monotone view start must local) view.nodes is.graph cases_eq

-- exists-miss bounds exist over any may ages
pub miss_exist : (view : View) → IsView view → (may : List (List ℕ)) (local : ℕ)
    → (miss : List ℕ) × AreMissBounds view may local miss
miss_exist view is may local =
    least_exists (miss_framework view may local) (miss_monotone view may local) view.nodes is.graph cases_eq

-- the least solutions of the four systems, the last two for one local block
abbrev pub HaveFour : View → Start → ℕ → Type 0
HaveFour view start local =
    (must : List (List ℕ)) × (may : List (List ℕ)) × (hit : List ℕ) × (miss : List ℕ)
    × AreFour view start local must may hit miss

-- they exist
pub four_exist : (view : View) → IsView view → (start : Start) (local : ℕ) → HaveFour view start local
four_exist view is start local =
    let must = must_exist view is in
    let may = may_exist view is start in
    let hit = hit_exist view is start must.0 local in
    let miss = miss_exist view is may.0 local in (
      must.0,
      may.0,
      hit.0,
      miss.0,
      record { must_ages = must.1; may_ages = may.1; hit_bounds = hit.1; miss_bounds = miss.1 },
    )
