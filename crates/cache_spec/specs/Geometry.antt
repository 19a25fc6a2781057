-- The shape of a cache: blocks of a line's bytes, sets, and ways. The usual set-associative cache; the limits are this
-- project's own.
use Rattle.std.specs.Prelude.{ℕ, ◌/◌, ◌%◌, Bool, ◌&&◌, nat_le}
use Rattle.std.specs.Int.{is_power_of_two}

-- the bytes of a line, the number of sets, and the blocks that a set has room for
pub record Geometry : Type 0 where
  pub line : ℕ
  pub sets : ℕ
  pub ways : ℕ

-- a power of two from 4 to 256
abbrev pub is_line : ℕ → Bool
is_line line = is_power_of_two line && (nat_le 4 line && nat_le line 256)

-- a power of two from 1 to 4,096
abbrev pub is_set_count : ℕ → Bool
is_set_count sets = is_power_of_two sets && nat_le sets 4096

-- 1 to 16
abbrev pub is_way_count : ℕ → Bool
is_way_count ways = nat_le 1 ways && nat_le ways 16

abbrev pub is_in_range : Geometry → Bool
is_in_range g = is_line g.line && (is_set_count g.sets && is_way_count g.ways)

-- the block that an address lies in
abbrev pub block_of : Geometry → ℕ → ℕ
block_of g address = address / g.line

-- the set that a block is kept in
abbrev pub set_of : Geometry → ℕ → ℕ
set_of g block = block % g.sets
