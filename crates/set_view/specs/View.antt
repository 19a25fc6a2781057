-- One cache set, seen over a graph: the blocks of the set that the nodes fetch, and which of them each node fetches.
use Rattle.std.specs.Prelude.{◌≡◌, ℕ, ◌<◌, ◌≤◌, List, length, Option, Some, option_map}
use Rattle.cache_spec.specs.Geometry.{Geometry}
use Rattle.path_model.specs.declared.graph.Node.{Node}
use Rattle.path_model.specs.Graph.{IsGraph, address_of, addresses_of}
use Rattle.focus_spec.specs.Younger.{named, fetch_at}
use Rattle.cache_spec.specs.Blocks.{block_in, block_limit, AreBlocks, HaveBlocks}
use Rattle.set_view.specs.declared.fetched.ViewFault.{ViewFault}
use Rattle.set_view.specs.declared.fetched.ViewFault.TheVariants.{TooManyBlocks, OutOfMemory}

-- the nodes, the shape of the cache and which of its sets this is, the set's fetched blocks, and for each node the place
-- of its block among them
pub record View : Type 0 where
  pub nodes : List Node
  pub geometry : Geometry
  pub set : ℕ
  pub blocks : List ℕ
  pub fetches : List (Option ℕ)

-- what holds of each view: the blocks are the fetched ones, they are few, and each node has its block's place
pub record IsView (view : View) : Type 0 where
  pub graph : IsGraph view.nodes
  pub some_ways : 1 ≤ view.geometry.ways
  pub few_ways : view.geometry.ways ≤ 16
  pub blocks : AreBlocks (addresses_of view.nodes) view.geometry view.set view.blocks
  pub few : length view.blocks ≤ block_limit
  pub one_each : length view.fetches ≡ length view.nodes
  pub within : (n local : ℕ) → fetch_at view.fetches n ≡ Some local → local < length view.blocks
  pub fetches : (n : ℕ) → n < length view.nodes
      → option_map (named view.blocks) (fetch_at view.fetches n)
      ≡ block_in view.geometry view.set (address_of view.nodes n)

-- why there is no view of the set: it has more fetched blocks than the limit, and this many; or out of memory
abbrev pub IsFault : List Node → Geometry → ℕ → ViewFault → Type 0
IsFault nodes g set (TooManyBlocks which count) =
    (which ≡ set) × HaveBlocks (addresses_of nodes) g set count × (block_limit < count)
IsFault nodes g set OutOfMemory = Unit {0}
