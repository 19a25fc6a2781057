-- The places of blocks among the fetched ones.
use Rattle.std.specs.Prelude.{ℕ, nat_eq, List, Option, option_and_then}
use Rattle.std.specs.List.{position}
use Rattle.cache_spec.specs.Geometry.{Geometry}
use Rattle.path_model.specs.declared.graph.Node.{Node}
use Rattle.cache_spec.specs.Blocks.{block_in}

-- the place of a block among the blocks
abbrev pub place_of : List ℕ → ℕ → Option ℕ
place_of blocks block = position (nat_eq block) blocks

-- the place of the block that a node fetches
abbrev pub local_at : List ℕ → Geometry → ℕ → Node → Option ℕ
local_at blocks g set node = option_and_then (place_of blocks) (block_in g set node.at)
