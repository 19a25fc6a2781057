-- What a family of sets is seen as: the list of its sets, in order.
use Rattle.std.specs.Prelude.{◌≡◌, ℕ, ◌<◌, ◌≤◌, ◌↔◌, ◌⊎◌, List, length, Ok, Err, Result, slice_index_or}
use Rattle.std.specs.Cmp.Lexicographic.{slice_cmp}
use Rattle.std.specs.List.{Contains, AllPairs}
use Rattle.std.specs.List.Sorted.{IsStrictlyIncreasing}
use Rattle.std.specs.Ordering.{nat_cmp}
use Rattle.std.specs.declared.cmp.Ordering.TheVariants.{Less}
use Rattle.set_list.specs.SetList.{IsSubset}

-- the first set comes before the second
abbrev pub IsBefore : List ℕ → List ℕ → Type 0
IsBefore s t = slice_cmp nat_cmp s t ≡ Less

-- the numbers of each set rise
abbrev pub AreRising : List (List ℕ) → Type 0
AreRising sets = (s : List ℕ) → Contains sets s → IsStrictlyIncreasing s

-- each set comes before all later ones, so that no two are the same, and the numbers of each rise
pub record IsFamily (sets : List (List ℕ)) : Type 0 where
  pub ordered : AllPairs IsBefore sets
  pub rising : AreRising sets

-- the second set has the numbers of the first, and x
pub record IsWith (x : ℕ) (s t : List ℕ) : Type 0 where
  pub rising : IsStrictlyIncreasing t
  pub members : (y : ℕ) → Contains t y ↔ (Contains s y ⊎ (y ≡ x))

-- no other of the sets is included in this one
abbrev pub IsMinimal : List (List ℕ) → List ℕ → Type 0
IsMinimal sets s = (t : List ℕ) → Contains sets t → IsSubset t s → t ≡ s

-- no other of the sets includes this one
abbrev pub IsMaximal : List (List ℕ) → List ℕ → Type 0
IsMaximal sets s = (t : List ℕ) → Contains sets t → IsSubset s t → t ≡ s

-- where a set is, or between which sets it belongs
abbrev pub IsPlaceOf : List (List ℕ) → List ℕ → Result ℕ ℕ → Type 0
IsPlaceOf sets s (Ok i) = Contains sets s
IsPlaceOf sets s (Err i) = (i ≤ length sets) × ((k : ℕ) (d : List ℕ) → k < i → IsBefore (slice_index_or sets k d) s)
    × ((k : ℕ) (d : List ℕ) → i ≤ k → k < length sets → IsBefore s (slice_index_or sets k d))
