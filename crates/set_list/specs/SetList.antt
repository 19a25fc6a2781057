-- What a set of numbers is seen as: the list of its numbers, rising.
use Rattle.std.specs.Prelude.{ℕ, List}
use Rattle.std.specs.List.{Contains}

-- each number of the first set is in the second
abbrev pub IsSubset : List ℕ → List ℕ → Type 0
IsSubset xs ys = (x : ℕ) → Contains xs x → Contains ys x
