-- Which fetches the four numbers of the fetched block settle, and which they leave unclear.
use Rattle.std.specs.Prelude.{◌≡◌, ℕ, ◌<◌, Bool, true, false, List, Some}
use Rattle.cache_spec.specs.declared.start.Start.{Start}
use Rattle.focus_spec.specs.Younger.{fetch_at}
use Rattle.set_view.specs.View.{View}
use Rattle.age_spec.specs.Ages.{AreMustAges, AreMayAges, age_of, age_at}
use Rattle.age_spec.specs.Exists.{AreHitBounds, AreMissBounds}

-- always-hit by must
abbrev pub HitsByMust : ℕ → ℕ → Type 0
HitsByMust ways must = must < ways

-- always-miss by may
abbrev pub MissesByMay : ℕ → ℕ → Type 0
MissesByMay ways may = may ≡ ways

-- some path can hit, by exists-hit
abbrev pub CanHitByBound : ℕ → ℕ → Type 0
CanHitByBound ways hit = hit < ways

-- some path can miss, by exists-miss
abbrev pub CanMissByBound : ℕ → ℕ → Type 0
CanMissByBound ways miss = miss ≡ ways

-- one of these: that some path can hit by exists-hit, or that some path can miss by exists-miss
abbrev pub IsShown : Bool → ℕ → ℕ → Type 0
IsShown true ways hit = CanHitByBound ways hit
IsShown false ways miss = CanMissByBound ways miss

-- the four systems' least solutions: the ages by node and block, and one local block's bounds by node
pub record AreFour (view : View) (start : Start) (local : ℕ) (must may : List (List ℕ)) (hit miss : List ℕ) : Type 0 where
  pub must_ages : AreMustAges view must
  pub may_ages : AreMayAges view start may
  pub hit_bounds : AreHitBounds view start must local hit
  pub miss_bounds : AreMissBounds view may local miss

-- the numbers of a fetch: it isn't always-hit by must, nor always-miss by may, and not both paths are known
pub record IsUnclear (ways must may hit miss : ℕ) : Type 0 where
  pub not_hit : must ≡ ways
  pub not_miss : may < ways
  pub not_both : CanHitByBound ways hit → CanMissByBound ways miss → ⊥

-- a node's fetch of the local block is unclear
pub record IsUnclearAt (view : View) (local : ℕ) (must may : List (List ℕ)) (hit miss : List ℕ) (n : ℕ) : Type 0 where
  pub fetches : fetch_at view.fetches n ≡ Some local
  pub unclear : IsUnclear view.geometry.ways (age_of must n local) (age_of may n local) (age_at hit n) (age_at miss n)

-- the local block has an unclear fetch
pub record HasUnclear (view : View) (start : Start) (local : ℕ) : Type 0 where
  pub must : List (List ℕ)
  pub may : List (List ℕ)
  pub hit : List ℕ
  pub miss : List ℕ
  pub four : AreFour view start local must may hit miss
  pub node : ℕ
  pub unclear : IsUnclearAt view local must may hit miss node
