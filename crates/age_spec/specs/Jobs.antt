-- The blocks that ages leave unclear, which are settled by a search: the jobs of an analysis.
use Rattle.std.specs.Prelude.{◌≡◌, ◌↔◌, ℕ, List, Some, slice_get}
use Rattle.std.specs.List.{Contains}
use Rattle.std.specs.List.Sorted.{IsStrictlyIncreasing}
use Rattle.cache_spec.specs.declared.start.Start.{Start}
use Rattle.cache_spec.specs.Geometry.{Geometry, set_of}
use Rattle.path_model.specs.declared.graph.Node.{Node}
use Rattle.set_view.specs.View.{View, IsView}
use Rattle.age_spec.specs.Settled.{HasUnclear}

-- the nodes fetch the block, and in the view of its set it has an unclear fetch
pub record IsJob (nodes : List Node) (g : Geometry) (start : Start) (block : ℕ) : Type 0 where
  pub view : View
  pub is_view : IsView view
  pub nodes_are : view.nodes ≡ nodes
  pub geometry_is : view.geometry ≡ g
  pub set_is : view.set ≡ set_of g block
  pub local : ℕ
  pub block_is : slice_get view.blocks local ≡ Some block
  pub unclear : HasUnclear view start local

-- exactly the jobs over these nodes, rising
pub record AreJobs (nodes : List Node) (g : Geometry) (start : Start) (blocks : List ℕ) : Type 0 where
  pub rising : IsStrictlyIncreasing blocks
  pub members : (block : ℕ) → Contains blocks block ↔ IsJob nodes g start block
