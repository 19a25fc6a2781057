-- Which nodes wait to be worked off.
use Rattle.std.specs.Prelude.{◌≡◌, ℕ, ◌+◌, ◌*◌, ◌/◌, ◌<◌, ◌≤◌, Bool, true, false, List, length, min, slice_index_or}

-- a node waits to be worked off
abbrev pub Waits : List Bool → ℕ → Type 0
Waits waiting n = slice_index_or waiting n false ≡ true

-- a node does not wait
abbrev pub IsDone : List Bool → ℕ → Type 0
IsDone waiting n = slice_index_or waiting n false ≡ false

-- the end of the block of 256 flags that has a place
abbrev pub block_end : ℕ → ℕ → ℕ
block_end place count = min ((place / 256 + 1) * 256) count

-- each block in which a flag is set has its mark
pub record AreMarked (flags marks : List Bool) : Type 0 where
  pub room : length flags ≤ 256 * length marks
  pub each : (n : ℕ) → Waits flags n → Waits marks (n / 256)

-- the blocks are marked, and no node below a number waits
pub record IsSwept (flags marks : List Bool) (least : ℕ) : Type 0 where
  pub marked : AreMarked flags marks
  pub within : least ≤ length flags
  pub done : (n : ℕ) → n < least → IsDone flags n
