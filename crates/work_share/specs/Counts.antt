-- How often a number stands in a list.
use Rattle.std.specs.Prelude.{◌≡◌, ℕ, List, ◌==◌, if◌then◌else◌, nat_lt, count_by}

-- how often x stands in the list
abbrev pub times : ℕ → List ℕ → ℕ
times x numbers = count_by (λ y. y == x) numbers

-- 1 for a number below n, and 0 for any other
abbrev pub once_below : ℕ → ℕ → ℕ
once_below x n = if nat_lt x n then 1 else 0

-- the list has each number below n once, and no other
abbrev pub IsEachBelow : ℕ → List ℕ → Type 0
IsEachBelow n numbers = (x : ℕ) → times x numbers ≡ once_below x n
