-- Where a block stands in a set.
use Rattle.std.specs.Prelude.{ℕ, nat_eq, List, unwrap_or}
use Rattle.std.specs.List.{position}

-- the place of a block among those that a set keeps: its index, or the ways where it isn't kept
abbrev pub place : ℕ → List ℕ → ℕ → ℕ
place ways kept block = unwrap_or (position (nat_eq block) kept) ways
