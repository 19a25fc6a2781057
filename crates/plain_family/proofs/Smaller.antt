-- Sets that are included in one another.
use Rattle.std.proofs.Common.{◌≡◌, ℕ, ◌<◌, inl, inr, List, length, Contains, sym, ap, arith}
use Rattle.std.specs.List.Sorted.{IsStrictlyIncreasing}
use Rattle.set_list.specs.SetList.{IsSubset}
use Rattle.set_list.specs.RisingSets.{smaller_or_same, same_from_subsets}
use Rattle.plain_family.specs.Family.{AreRising, IsWith, IsMinimal, IsMaximal}

-- sets of the same numbers are the same
pub IsWith-unique : (x : ℕ) (set s t : List ℕ) → IsWith x set s → IsWith x set t → s ≡ t
IsWith-unique x set s t first second =
    same_from_subsets s t first.rising second.rising
    (λ y here. (second.members y).1 ((first.members y).0 here))
    (λ y here. (first.members y).1 ((second.members y).0 here))

-- the first set is included in the second and has fewer numbers
abbrev pub IsSmaller : List ℕ → List ℕ → Type 0
IsSmaller s t = (length s < length t) × IsSubset s t

-- where no set of the family is smaller
pub minimal_from_none : (sets : List (List ℕ)) (s : List ℕ) → AreRising sets → IsStrictlyIncreasing s
    → ((t : List ℕ) → Contains sets t → IsSmaller t s → ⊥) → IsMinimal sets s
minimal_from_none sets s rising up none t there subset = elim (smaller_or_same t s (rising t there) up subset) [
  | inl fewer ↦ absurd (none t there (fewer, subset))
  | inr same ↦ same
]

-- where the set is smaller than none of the family
pub maximal_from_none : (sets : List (List ℕ)) (s : List ℕ) → AreRising sets → IsStrictlyIncreasing s
    → ((t : List ℕ) → Contains sets t → IsSmaller s t → ⊥) → IsMaximal sets s
maximal_from_none sets s rising up none t there subset = elim (smaller_or_same s t up (rising t there) subset) [
  | inl fewer ↦ absurd (none t there (fewer, subset))
  | inr same ↦ sym same
]

-- where a set of the family is smaller
pub not_minimal : (sets : List (List ℕ)) (s t : List ℕ) → Contains sets t → IsSmaller t s → IsMinimal sets s → ⊥
not_minimal sets s t there smaller minimal =
    let long = ap length (minimal t there smaller.1) in
    omega (arith, long, smaller.0)

-- where the set is smaller than one of the family
pub not_maximal : (sets : List (List ℕ)) (s t : List ℕ) → Contains sets t → IsSmaller s t → IsMaximal sets s → ⊥
not_maximal sets s t there smaller maximal =
    let long = ap length (maximal t there smaller.1) in
    omega (arith, long, smaller.0)
