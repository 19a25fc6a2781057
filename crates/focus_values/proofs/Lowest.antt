-- In a finite family each set includes a least one, and is included in a most one.
use Rattle.std.proofs.Common.{◌≡◌, ℕ, zero, suc, ◌+◌, ◌≤◌, Bool, true, false, ◌&&◌, List, [], ◌∷◌, length, ltb, Contains, inl, inr, ap, arith}
use Rattle.std.proofs.lemmas.Bool.{and_parts, and_from, cases_Bool, both_ways, ltb-true, lt-ltb}
use Rattle.std.specs.List.{list_any}
use Rattle.set_list.specs.SetList.{IsSubset}
use Rattle.set_list.specs.Rising.{Contains-cons}
use Rattle.plain_family.specs.Family.{AreRising, IsMinimal, IsMaximal}
use Rattle.plain_family.proofs.Smaller.{IsSmaller, minimal_from_none, maximal_from_none}
use Rattle.focus_values.specs.Tests.{found_from_any, any_from_found}
use Rattle.focus_values.specs.Sets.{is_within}
use Rattle.focus_values.proofs.SetFacts.{is_within-true, is_within_from}

-- the first set is included in the second and has fewer numbers
is_smaller : List ℕ → List ℕ → Bool
is_smaller s t = ltb (length s) (length t) && is_within s t

-- the test means that it is smaller
is_smaller-true : (s t : List ℕ) → is_smaller s t ≡ true → IsSmaller s t
unfolding is_smaller
is_smaller-true s t passes = let parts = and_parts (ltb (length s) (length t)) (is_within s t) passes in
    (ltb-true (length s) (length t) parts.0, is_within-true s t parts.1)

-- and a smaller set passes it
is_smaller_from : (s t : List ℕ) → IsSmaller s t → is_smaller s t ≡ true
unfolding is_smaller
is_smaller_from s t smaller = and_from (ltb (length s) (length t)) (is_within s t)
    (lt-ltb (length s) (length t) smaller.0) (is_within_from s t smaller.1)

-- a least set of the family that is included in a set
abbrev HasLowest : List (List ℕ) → List ℕ → Type 0
HasLowest sets s = (t : List ℕ) × Contains sets t × IsMinimal sets t × IsSubset t s

-- where no set of the family is smaller the set is a least one
lowest_itself : (sets : List (List ℕ)) (s : List ℕ) → AreRising sets → Contains sets s
    → list_any (λ t. is_smaller t s) sets ≡ false → HasLowest sets s
lowest_itself sets s rising there none = (
  s,
  there,
  minimal_from_none sets s rising (rising s there)
      (λ t has smaller. both_ways _ none (any_from_found (λ t. is_smaller t s) sets t has
      (is_smaller_from t s smaller))),
  λ x has. has,
)

-- each set includes a least one
lowest_below : (n : ℕ) (sets : List (List ℕ)) (s : List ℕ) → AreRising sets → Contains sets s → length s ≤ n
    → HasLowest sets s
lowest_below zero sets s rising there short = elim (cases_Bool (list_any (λ t. is_smaller t s) sets)) [
  | inl some ↦
      let found = found_from_any (λ t. is_smaller t s) sets some in
      absurd (omega (arith, short, (is_smaller-true found.0 s found.2).0))
  | inr none ↦ lowest_itself sets s rising there none
]
lowest_below (suc n) sets s rising there short = elim (cases_Bool (list_any (λ t. is_smaller t s) sets)) [
  | inl some ↦
      let found = found_from_any (λ t. is_smaller t s) sets some in
      let smaller = is_smaller-true found.0 s found.2 in
      let rest = lowest_below n sets found.0 rising found.1 (omega (arith, short, smaller.0)) in
      (rest.0, rest.1, rest.2, λ x has. smaller.1 x (rest.3 x has))
  | inr none ↦ lowest_itself sets s rising there none
]

-- whatever the length of the set
pub has_lowest : (sets : List (List ℕ)) (s : List ℕ) → AreRising sets → Contains sets s → HasLowest sets s
has_lowest sets s rising there = lowest_below (length s) sets s rising there (omega arith)

-- how many numbers all sets have together
total : List (List ℕ) → ℕ
total [] = 0
total (s ∷ sets) = length s + total sets

-- none of them has more
within_total : (sets : List (List ℕ)) (s : List ℕ) → Contains sets s → length s ≤ total sets
unfolding total
within_total [] s there = absurd (omega (arith, there.1))
within_total (first ∷ sets) s there = elim ((Contains-cons first sets s).0 there) [
  | inl rest ↦ omega (arith, within_total sets s rest)
  | inr same ↦ omega (arith, ap length same)
]

-- a most set of the family that includes a set
abbrev HasHighest : List (List ℕ) → List ℕ → Type 0
HasHighest sets s = (t : List ℕ) × Contains sets t × IsMaximal sets t × IsSubset s t

-- where no set of the family is greater the set is a most one
highest_itself : (sets : List (List ℕ)) (s : List ℕ) → AreRising sets → Contains sets s
    → list_any (is_smaller s) sets ≡ false → HasHighest sets s
highest_itself sets s rising there none = (
  s,
  there,
  maximal_from_none sets s rising (rising s there)
      (λ t has smaller. both_ways _ none (any_from_found (is_smaller s) sets t has (is_smaller_from s t smaller))),
  λ x has. has,
)

-- each set is included in a most one
highest_above : (n : ℕ) (sets : List (List ℕ)) (s : List ℕ) → AreRising sets → Contains sets s
    → total sets ≤ length s + n → HasHighest sets s
highest_above zero sets s rising there short = elim (cases_Bool (list_any (is_smaller s) sets)) [
  | inl some ↦
      let found = found_from_any (is_smaller s) sets some in
      absurd (omega (arith, short, (is_smaller-true s found.0 found.2).0, within_total sets found.0 found.1))
  | inr none ↦ highest_itself sets s rising there none
]
highest_above (suc n) sets s rising there short = elim (cases_Bool (list_any (is_smaller s) sets)) [
  | inl some ↦
      let found = found_from_any (is_smaller s) sets some in
      let smaller = is_smaller-true s found.0 found.2 in
      let rest = highest_above n sets found.0 rising found.1 (omega (arith, short, smaller.0)) in
      (rest.0, rest.1, rest.2, λ x has. rest.3 x (smaller.1 x has))
  | inr none ↦ highest_itself sets s rising there none
]

-- however many numbers there are
pub has_highest : (sets : List (List ℕ)) (s : List ℕ) → AreRising sets → Contains sets s → HasHighest sets s
has_highest sets s rising there = highest_above (total sets) sets s rising there (omega arith)
