-- How often numbers stand in lists.
use Rattle.std.proofs.Common.{◌≡◌, ℕ, ◌+◌, ◌<◌, ◌≤◌, true, false, cond, eqb, ltb, List, [], ◌∷◌, ◌++◌, length, get_or}
use Rattle.std.proofs.Common.{refl, ap, arith, ◌∙◌, eq-eqb, ne_eqb, ⊎_elim}
use Rattle.std.specs.Prelude.{All}
use Rattle.std.proofs.lemmas.Bool.{lt-ltb, le-ltb, cases_eq, cases_lt}
use Rattle.std.proofs.lemmas.List.Sums.{sum_by-append, sum_by-cons, get_or-le-sum_by}
use Rattle.std.proofs.lemmas.List.Elements.{All-head, All-tail}
use Rattle.work_share.specs.Counts.{times, once_below}

-- 1 where the numbers are equal
abbrev here : ℕ → ℕ → ℕ
here x y = cond (eqb y x) 1 0

-- a number is equal to itself
here_same : (x : ℕ) → here x x ≡ 1
here_same x = let e : eqb x x ≡ true = eq-eqb x x refl in rw e refl

-- and to no other
here_other : (x y : ℕ) → (y ≡ x → ⊥) → here x y ≡ 0
here_other x y ne = let e : eqb y x ≡ false = ne_eqb y x ne in rw e refl

-- a number stands in two lists as often as in both together
pub times-append : (x : ℕ) (ys zs : List ℕ) → times x (ys ++ zs) ≡ times x ys + times x zs
times-append x ys zs = sum_by-append (here x) ys zs

-- a number stands once in a list of itself
pub times-same : (x : ℕ) → times x (x ∷ []) ≡ 1
times-same x =
    let one = here_same x in let parts : times x (x ∷ []) ≡ here x x + 0 = sum_by-cons (here x) x [] in omega arith

-- and in no list of another
pub times-other : (x y : ℕ) → (y ≡ x → ⊥) → times x (y ∷ []) ≡ 0
times-other x y ne =
    let none = here_other x y ne in
    let parts : times x (y ∷ []) ≡ here x y + 0 = sum_by-cons (here x) y [] in omega arith

-- a number that stands in a list is counted there
pub times-there : (xs : List ℕ) (k d : ℕ) → k < length xs → 0 < times (get_or xs k d) xs
times-there xs k d inside =
    let x : ℕ = get_or xs k d in
    let some = get_or-le-sum_by (here x) xs k d inside in
    let one = here_same x in let counted : here x x ≤ times x xs = some in omega arith

-- a number that is above each of a list doesn't stand there
pub times-above : (x n : ℕ) (ys : List ℕ) → n ≤ x → All (λ y. y < n) ys → times x ys ≡ 0
times-above x n [] above small = refl
times-above x n (y ∷ ys) above small =
    let parts : times x (y ∷ ys) ≡ here x y + times x ys = sum_by-cons (here x) y ys in
    let lt : y < n = All-head (λ y. y < n) y ys small in
    let first = here_other x y (λ e. omega arith) in
    let more = times-above x n ys above (All-tail (λ y. y < n) y ys small) in omega arith

-- a number below n counts 1
pub once_below-under : (x n : ℕ) → x < n → once_below x n ≡ 1
once_below-under x n lt = let b : ltb x n ≡ true = lt-ltb x n lt in rw b refl

-- a number that is not below n counts 0
pub once_below-past : (x n : ℕ) → n ≤ x → once_below x n ≡ 0
once_below-past x n le = let b : ltb x n ≡ false = le-ltb x n le in rw b refl

-- what is counted once below n is below n
pub once_below-positive : (x n : ℕ) → 0 < once_below x n → x < n
once_below-positive x n some =
    ⊎_elim (λ (lt : x < n). lt) (λ (le : n ≤ x). let none = once_below-past x n le in absurd (omega arith))
    (cases_lt x n)

-- one bound further, one number more
pub once_below-next : (x n : ℕ) → once_below x (n + 1) ≡ once_below x n + times x (n ∷ [])
once_below-next x n =
    ⊎_elim
    (λ (same : n ≡ x).
    let a = once_below-under x (n + 1) (omega arith) in
    let b = once_below-past x n (omega arith) in
    let c : times x (n ∷ []) ≡ 1 = ap (λ (m : ℕ). times x (m ∷ [])) same ∙ times-same x in omega arith)
    (λ (other : n ≡ x → ⊥).
    let c = times-other x n other in
    ⊎_elim
    (λ (lt : x < n).
    let a = once_below-under x (n + 1) (omega arith) in let b = once_below-under x n lt in omega arith)
    (λ (le : n ≤ x).
    let a = once_below-past x (n + 1) (omega arith) in let b = once_below-past x n le in omega arith)
    (cases_lt x n)) (cases_eq n x)
