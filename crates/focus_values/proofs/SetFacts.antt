-- What the tests on sets of local numbers mean.
use Rattle.std.proofs.Common.{◌≡◌, ℕ, ◌+◌, ◌≤◌, ◌<◌, true, ◌&&◌, List, [], ◌∷◌, eqb, ltb, leb, refl, sym, inl, inr, subst, arith}
use Rattle.std.proofs.lemmas.Bool.{and_parts, and_from, ltb-true, leb-true, lt-ltb, le-leb, eqb-true, eq-eqb}
use Rattle.std.specs.List.{Contains}
use Rattle.std.specs.List.Sorted.{IsStrictlyIncreasing}
use Rattle.set_list.specs.SetList.{IsSubset}
use Rattle.set_list.specs.Rising.{Contains-cons}
use Rattle.set_list.specs.RisingSets.{rising-cons, rising-tail, above_first}
use Rattle.focus_values.specs.Tests.{found_from_any, any_from_found}
use Rattle.focus_values.specs.Sets.{has, is_within, rises}

-- the numbers of a set that passes rise
pub rises-rising : (low high : ℕ) (set : List ℕ) → rises low high set ≡ true → IsStrictlyIncreasing set
rises-rising low high [] up = λ k inside. absurd (omega (arith, inside))
rises-rising low high (x ∷ []) up = λ k inside. absurd (omega (arith, inside))
rises-rising low high (x ∷ y ∷ ys) up =
    let beyond = (and_parts (ltb x high) (rises (x + 1) high (y ∷ ys))
    (and_parts (leb low x) (ltb x high && rises (x + 1) high (y ∷ ys)) up).1).1 in
    let next = (and_parts (leb (x + 1) y) (ltb y high && rises (y + 1) high ys) beyond).0 in
    rising-cons x (y ∷ ys) (λ _. omega (arith, leb-true (x + 1) y next)) (rises-rising (x + 1) high (y ∷ ys) beyond)

-- and lie in the range
pub rises-within : (low high : ℕ) (set : List ℕ) → rises low high set ≡ true → (x : ℕ) → Contains set x
    → (low ≤ x) × (x < high)
rises-within low high [] up x there = absurd (omega (arith, there.1))
rises-within low high (first ∷ xs) up x there =
    let low_parts = and_parts (leb low first) (ltb first high && rises (first + 1) high xs) up in
    let high_parts = and_parts (ltb first high) (rises (first + 1) high xs) low_parts.1 in
    let from = leb-true low first low_parts.0 in
    let upto = ltb-true first high high_parts.0 in
    elim ((Contains-cons first xs x).0 there) [
      | inl later ↦ let rest = rises-within (first + 1) high xs high_parts.1 x later in
          (omega (arith, rest.0, from), rest.1)
      | inr same ↦ (omega (arith, same, from), omega (arith, same, upto))
    ]

-- numbers that rise within the range pass
pub rises_from_rising : (low high : ℕ) (set : List ℕ) → IsStrictlyIncreasing set
    → ((x : ℕ) → Contains set x → (low ≤ x) × (x < high)) → rises low high set ≡ true
rises_from_rising low high [] up within = refl
rises_from_rising low high (x ∷ xs) up within =
    let first = within x ((Contains-cons x xs x).1 (inr refl)) in
    let rest = rises_from_rising (x + 1) high xs (rising-tail x xs up) (λ y there.
    let above = above_first x xs y up there in
    (omega (arith, above), (within y ((Contains-cons x xs y).1 (inl there))).1)) in
    and_from (leb low x) (ltb x high && rises (x + 1) high xs) (le-leb low x first.0)
    (and_from (ltb x high) (rises (x + 1) high xs) (lt-ltb x high first.1) rest)

-- a number that is found is in the set
pub has-true : (set : List ℕ) (x : ℕ) → has set x ≡ true → Contains set x
has-true set x passes = let found = found_from_any (λ y. eqb y x) set passes in
    subst (Contains set) (eqb-true found.0 x found.2) found.1

-- a number of the set is found
pub has_from : (set : List ℕ) (x : ℕ) → Contains set x → has set x ≡ true
has_from set x there = any_from_found (λ y. eqb y x) set x there (eq-eqb x x refl)

-- a set that passes the test is a subset
pub is_within-true : (small large : List ℕ) → is_within small large ≡ true → IsSubset small large
is_within-true [] large within = λ x there. absurd (omega (arith, there.1))
is_within-true (y ∷ small) large within = λ x there.
    let parts = and_parts (has large y) (is_within small large) within in
    elim ((Contains-cons y small x).0 there) [
      | inl rest ↦ is_within-true small large parts.1 x rest
      | inr same ↦ subst (Contains large) (sym same) (has-true large y parts.0)
    ]

-- and a subset passes it
pub is_within_from : (small large : List ℕ) → IsSubset small large → is_within small large ≡ true
is_within_from [] large subset = refl
is_within_from (y ∷ small) large subset =
    and_from (has large y) (is_within small large)
    (has_from large y (subset y ((Contains-cons y small y).1 (inr refl))))
    (is_within_from small large (λ x there. subset x ((Contains-cons y small x).1 (inl there))))
