-- The place of a number in a list that rises.
use Rattle.std.proofs.Common.{◌≡◌, ℕ, ◌<◌, ◌≤◌, ⊎_elim, List, length, Some, None, Ok, Err, sym, subst, arith, eq-eqb, MatchResult}
use Rattle.std.specs.Prelude.{nat_eq, Result}
use Rattle.std.specs.Result.{result_ok}
use Rattle.std.specs.List.{position_or_len}
use Rattle.std.specs.List.Sorted.{IsStrictlyIncreasing}
use Rattle.std.proofs.Math.ListN.{get_or}
use Rattle.std.proofs.lemmas.Bool.{cases_eq, cases_lt, ne_eqb}
use Rattle.std.proofs.lemmas.Bool.Decides.{nat_tests}
use Rattle.std.proofs.lemmas.List.Kept.{AllPairs-from_increasing}
use Rattle.std.proofs.lemmas.List.Sums.{position_or_len_is}
use Rattle.set_view.specs.Places.{place_of}

-- a later number is greater
pub later-greater : (xs : List ℕ) (i j : ℕ) → IsStrictlyIncreasing xs → i < j → j < length xs
    → get_or xs i 0 < get_or xs j 0
later-greater xs i j rising before within = AllPairs-from_increasing xs rising i j 0 before within

-- a later number isn't smaller
pub later-not_smaller : (xs : List ℕ) (i j : ℕ) → IsStrictlyIncreasing xs → i ≤ j → j < length xs
    → get_or xs i 0 ≤ get_or xs j 0
later-not_smaller xs i j rising before within = ⊎_elim
    (λ (same : i ≡ j). let P : ℕ → Type 0 = λ k. get_or xs i 0 ≤ get_or xs k 0 in subst P same (omega arith))
    (λ (other : i ≡ j → ⊥). let less = later-greater xs i j rising (omega arith) within in omega arith)
    (cases_eq i j)

-- a number that stands at a place has that place
pub place_of-found : (xs : List ℕ) (x i : ℕ) → IsStrictlyIncreasing xs → i < length xs → get_or xs i 0 ≡ x
    → place_of xs x ≡ Some i
place_of-found xs x i rising within same =
    let at : position_or_len (nat_eq x) xs ≡ i = position_or_len_is (nat_eq x) xs i 0 (omega arith)
    (λ k before. let less = later-greater xs k i rising before within in ne_eqb x (get_or xs k 0)
    (λ (e : x ≡ get_or xs k 0). omega arith))
    (λ _. eq-eqb x (get_or xs i 0) (sym same)) in
    grind (arith, nat_tests)

-- a number that stands at no place has none
pub place_of-absent : (xs : List ℕ) (x : ℕ) → ((k : ℕ) → k < length xs → get_or xs k 0 ≡ x → ⊥) → place_of xs x ≡ None
place_of-absent xs x absent =
    let at : position_or_len (nat_eq x) xs ≡ length xs = position_or_len_is (nat_eq x) xs (length xs) 0 (omega arith)
    (λ k before. ne_eqb x (get_or xs k 0) (λ (e : x ≡ get_or xs k 0). absent k before (sym e)))
    (λ past. absurd (omega arith)) in
    grind (arith, nat_tests)

-- what a binary search finds is the place
pub place_of-searched : (xs : List ℕ) (x : ℕ) (r : Result ℕ ℕ) → IsStrictlyIncreasing xs
    → MatchResult r (λ i. (i < length xs) × (get_or xs i 0 ≡ x))
    (λ i. (i ≤ length xs) × ((k : ℕ) → k < i → get_or xs k 0 < x)
    × ((k : ℕ) → i ≤ k → k < length xs → x < get_or xs k 0))
    → result_ok r ≡ place_of xs x
place_of-searched xs x (Ok i) rising found = sym (place_of-found xs x i rising found.0 found.1)
place_of-searched xs x (Err i) rising missed = sym (place_of-absent xs x (λ k within same. ⊎_elim
    (λ (before : k < i). let less = missed.1 k before in omega arith)
    (λ (after : i ≤ k). let less = missed.2 k after within in omega arith)
    (cases_lt k i)))
