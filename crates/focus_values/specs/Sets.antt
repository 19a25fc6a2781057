-- Sets of local numbers as lists that rise, with tests that compute.
use Rattle.std.specs.Prelude.{ℕ, zero, suc, ◌+◌, Bool, true, ◌&&◌, ◌==◌, if◌then◌else◌, nat_lt, nat_le, List, [], ◌∷◌, ◌++◌, map}
use Rattle.std.specs.List.{list_any, list_all}

-- the set has the number
abbrev pub has : List ℕ → ℕ → Bool
has set x = list_any (λ y. y == x) set

-- each number of the first set is in the second
abbrev pub is_within : List ℕ → List ℕ → Bool
is_within small large = list_all (has large) small

-- the numbers rise, from a least one on and below another
abbrev pub rises : ℕ → ℕ → List ℕ → Bool
rises low high [] = true
rises low high (x ∷ xs) = nat_le low x && (nat_lt x high && rises (x + 1) high xs)

-- the set without a number
abbrev pub without : ℕ → List ℕ → List ℕ
without x [] = []
without x (y ∷ ys) = if y == x then without x ys else (y ∷ without x ys)

-- all sets of the next `count` numbers from a least one on
abbrev pub sets_from : ℕ → ℕ → List (List ℕ)
sets_from zero low = [] ∷ []
sets_from (suc n) low = sets_from n (low + 1) ++ map (λ s. low ∷ s) (sets_from n (low + 1))
