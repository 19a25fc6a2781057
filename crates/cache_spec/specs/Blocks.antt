-- Which blocks of a set some addresses lie in, and how many. An analysis of a set takes `block_limit` at most.
use Rattle.std.specs.Prelude.{◌≡◌, ◌==◌, ◌↔◌, ℕ, ◌<◌, ◌≤◌, List, length, Option, Some, None, if◌then◌else◌}
use Rattle.std.specs.List.{Contains}
use Rattle.std.specs.List.Sorted.{IsStrictlyIncreasing}
use Rattle.cache_spec.specs.Geometry.{Geometry, block_of, set_of}

-- the block that an address lies in, where that is a block of the set
abbrev pub block_in : Geometry → ℕ → ℕ → Option ℕ
block_in g set address = if set_of g (block_of g address) == set then Some (block_of g address) else None

-- the most blocks of a set that an analysis takes
abbrev pub block_limit : ℕ
block_limit = 1024

-- one of the addresses lies in this block of the set
abbrev pub LieIn : List ℕ → Geometry → ℕ → ℕ → Type 0
LieIn addresses g set block = (address : ℕ) × Contains addresses address × (block_in g set address ≡ Some block)

-- these are the blocks of the set that the addresses lie in, each once and rising
pub record AreBlocks (addresses : List ℕ) (g : Geometry) (set : ℕ) (blocks : List ℕ) : Type 0 where
  pub rising : IsStrictlyIncreasing blocks
  pub members : (block : ℕ) → Contains blocks block ↔ LieIn addresses g set block

-- the addresses lie in `count` blocks of the set
abbrev pub HaveBlocks : List ℕ → Geometry → ℕ → ℕ → Type 0
HaveBlocks addresses g set count = (blocks : List ℕ) × AreBlocks addresses g set blocks × (length blocks ≡ count)

-- they lie in no more of them than the limit
abbrev pub HaveFew : List ℕ → Geometry → ℕ → Type 0
HaveFew addresses g set = (count : ℕ) × HaveBlocks addresses g set count × (count ≤ block_limit)

-- the same of each set
abbrev pub HaveFewInAll : List ℕ → Geometry → Type 0
HaveFewInAll addresses g = (set : ℕ) → set < g.sets → HaveFew addresses g set

-- this is the first set in which they lie in more blocks than the limit, and in this many
pub record HaveMany (addresses : List ℕ) (g : Geometry) (set count : ℕ) : Type 0 where
  pub inside : set < g.sets
  pub earlier : (other : ℕ) → other < set → HaveFew addresses g other
  pub has : HaveBlocks addresses g set count
  pub many : block_limit < count
