-- Solutions of a framework over a graph, as lists with the data of each node.
use Rattle.std.specs.Prelude.{◌≡◌, ℕ, List, length, Some, slice_get}
use Rattle.transition_spec.specs.Path.{IsSuccessor}
use Rattle.path_model.specs.declared.graph.Node.{Node}
use Rattle.path_model.specs.Graph.{graph_step}
use Rattle.lattice_fix.specs.Framework.{Framework}

-- the data at node 0 are at least the start, and those at a successor at least the transfer at the node
pub record IsSolution {D : Type 0} (F : Framework D) (nodes : List Node) (before : List D) : Type 0 where
  pub one_each : length before ≡ length nodes
  pub within : (n : ℕ) (x : D) → slice_get before n ≡ Some x → F.carrier x
  pub starts : (x : D) → slice_get before 0 ≡ Some x → F.below F.start x
  pub follows : (n m : ℕ) (x y : D) → IsSuccessor (graph_step nodes) n m → slice_get before n ≡ Some x
      → slice_get before m ≡ Some y
      → F.below (F.transfer n x) y

-- a solution that lies below each solution
pub record IsLeast {D : Type 0} (F : Framework D) (nodes : List Node) (before : List D) : Type 0 where
  pub solution : IsSolution F nodes before
  pub least : (other : List D) → IsSolution F nodes other → (n : ℕ) (x y : D) → slice_get before n ≡ Some x
      → slice_get other n ≡ Some y
      → F.below x y
