-- Numbers of bytes that lead no farther than once round all addresses.
use Rattle.std.specs.Prelude.{◌^◌, ℤ, pos, neg_ℤ, ◌≤ℤ◌, ◌<ℤ◌}

-- from -2^32 to 2^32 - 1
abbrev pub IsNear : ℤ → Type 0
IsNear offset = (neg_ℤ (pos (2 ^ 32)) ≤ℤ offset) × (offset <ℤ pos (2 ^ 32))
