-- Little-endian numbers in a list of bytes.
use Rattle.std.specs.Prelude.{ℕ, ◌+◌, ◌*◌, List, slice_index}

-- the number of two bytes at a place
abbrev pub u16_at : List ℕ → ℕ → ℕ
u16_at bytes place = slice_index bytes place + 256 * slice_index bytes (place + 1)

-- the number of four bytes at a place
abbrev pub u32_at : List ℕ → ℕ → ℕ
u32_at bytes place = u16_at bytes place + 65536 * u16_at bytes (place + 2)
