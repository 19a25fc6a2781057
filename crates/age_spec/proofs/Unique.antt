-- The least solutions of the four systems of a view are unique.
use Rattle.std.proofs.Common.{◌≡◌, ℕ, List, sym, subst}
use Rattle.cache_spec.specs.declared.start.Start.{Start}
use Rattle.cache_spec.specs.declared.start.Start.TheVariants.{Empty}
use Rattle.set_view.specs.View.{View}
use Rattle.lattice_fix.proofs.Paths.{least_same}
use Rattle.age_spec.specs.declared.kind.Kind.TheVariants.{Must, May}
use Rattle.age_spec.specs.Ages.{setting_of, age_framework, AreMustAges, AreMayAges}
use Rattle.age_spec.specs.Exists.{hit_framework, miss_framework, AreHitBounds, AreMissBounds}
use Rattle.age_spec.specs.Settled.{AreFour}
use Rattle.age_spec.proofs.Monotone.{ages_monotone}
use Rattle.age_spec.proofs.Reaching.{hit_monotone, miss_monotone}

-- all must ages are the same
pub must_same : (view : View) (one two : List (List ℕ)) → AreMustAges view one → AreMustAges view two → one ≡ two
must_same view one two are_one are_two =
    let setting = setting_of view Must Empty in
    least_same (age_framework setting) (ages_monotone setting) view.nodes one two are_one are_two

-- all may ages from one start are the same
pub may_same : (view : View) (start : Start) (one two : List (List ℕ)) → AreMayAges view start one
    → AreMayAges view start two → one ≡ two
may_same view start one two are_one are_two =
    let setting = setting_of view May start in
    least_same (age_framework setting) (ages_monotone setting) view.nodes one two are_one are_two

-- all exists-hit bounds over the same must ages are the same
pub hit_same : (view : View) (start : Start) (must : List (List ℕ)) (local : ℕ) (one two : List ℕ)
    → AreHitBounds view start must local one → AreHitBounds view start must local two → one ≡ two
hit_same view start must local one two are_one are_two =
    least_same (hit_framework view start must local) (hit_monotone view start must local) view.nodes one two
    are_one are_two

-- all exists-miss bounds over the same may ages are the same
pub miss_same : (view : View) (may : List (List ℕ)) (local : ℕ) (one two : List ℕ)
    → AreMissBounds view may local one → AreMissBounds view may local two → one ≡ two
miss_same view may local one two are_one are_two =
    least_same (miss_framework view may local) (miss_monotone view may local) view.nodes one two are_one are_two

-- so the four are
pub four_same : (view : View) (start : Start) (local : ℕ) (must may : List (List ℕ)) (hit miss : List ℕ)
    (other_must other_may : List (List ℕ)) (other_hit other_miss : List ℕ) → AreFour view start local must may hit miss
    → AreFour view start local other_must other_may other_hit other_miss
    → (must ≡ other_must) × (may ≡ other_may) × (hit ≡ other_hit) × (miss ≡ other_miss)
four_same view start local must may hit miss other_must other_may other_hit other_miss one two =
    let musts : must ≡ other_must = must_same view must other_must one.must_ages two.must_ages in
    let mays : may ≡ other_may = may_same view start may other_may one.may_ages two.may_ages in
    let hits : AreHitBounds view start must local other_hit =
    subst (λ (ages : List (List ℕ)). AreHitBounds view start ages local other_hit) (sym musts) two.hit_bounds in
    let misses : AreMissBounds view may local other_miss =
    subst (λ (ages : List (List ℕ)). AreMissBounds view ages local other_miss) (sym mays) two.miss_bounds in (
      musts,
      mays,
      hit_same view start must local hit other_hit one.hit_bounds hits,
      miss_same view may local miss other_miss one.miss_bounds misses,
    )
