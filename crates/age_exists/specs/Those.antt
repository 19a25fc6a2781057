-- Numbers that a loop keeps, rising.
use Rattle.std.specs.Prelude.{◌↔◌, ℕ, ◌<◌, List}
use Rattle.std.specs.List.{Contains}
use Rattle.std.specs.List.Sorted.{IsStrictlyIncreasing}

-- these are the numbers below the count that have the property, rising
pub record AreThose (P : ℕ → Type 0) (count : ℕ) (numbers : List ℕ) : Type 0 where
  pub rising : IsStrictlyIncreasing numbers
  pub members : (n : ℕ) → Contains numbers n ↔ ((n < count) × P n)
