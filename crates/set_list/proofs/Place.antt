-- The place of a number in a rising list.
use Rattle.std.proofs.Common.{ℕ, ◌<◌, ◌≤◌, inl, inr, Err, List, length, get_or, insert, ap, arith}
use Rattle.std.proofs.lemmas.Bool.{cases_eq}
use Rattle.std.proofs.lemmas.List.{get_or_default}
use Rattle.std.proofs.lemmas.List.Kept.{AllPairs-from_increasing}
use Rattle.std.proofs.lemmas.List.Sorted.{searched}
use Rattle.std.specs.List.Sorted.{IsStrictlyIncreasing, IsBinarySearchResult}
use Rattle.std.specs.Ordering.{nat_cmp}
use Rattle.set_list.specs.Rising.{AllPairs-insert, rising_from_AllPairs}

-- no number is above a later one
never_falls : (xs : List ℕ) → IsStrictlyIncreasing xs → (i j : ℕ) → i ≤ j → j < length xs
    → get_or xs i 0 ≤ get_or xs j 0
never_falls xs up i j before inside = elim (cases_eq i j) [
  | inl same ↦ let equal = ap (λ n. get_or xs n 0) same in omega arith
  | inr other ↦ let less = AllPairs-from_increasing xs up i j 0 (omega arith) inside in omega arith
]

-- a number put where the search says that it belongs
pub rising-insert : (xs : List ℕ) (i x : ℕ) → IsStrictlyIncreasing xs
    → IsBinarySearchResult (λ y. nat_cmp y x) xs (Err i) → IsStrictlyIncreasing (insert xs i x)
rising-insert xs i x up place =
    let (within, below, above) = searched xs x (Err i) place (never_falls xs up) in
    rising_from_AllPairs _ (AllPairs-insert (λ a b. a < b) xs i x within (AllPairs-from_increasing xs up)
    (λ k d prefix. let inside : k < length xs = omega arith in rw (get_or_default xs k d 0 inside) (below k prefix))
    (λ k d back inside. rw (get_or_default xs k d 0 inside) (above k back inside)))
