-- Monotone frameworks over a flow graph and over its sparse graph.
use Rattle.std.specs.Prelude.{◌≡◌, ◌↔◌, ℕ, ◌<◌, List, length, Some, slice_get}
use Rattle.std.specs.List.{filter_map}
use Rattle.lattice_fix.specs.Framework.{Framework}
use Rattle.sparse_graph.specs.Plan.{IsKept}
use Rattle.sparse_graph.specs.Sparse.{Sparse}

-- both frameworks have the same data, start and order; a dropped node leaves data as they are, and a kept one makes the
-- same of them in both graphs
pub record MoveAlike {D : Type 0} (sparse : Sparse) (F G : Framework D) : Type 0 where
  pub carrier : (x : D) → F.carrier x ↔ G.carrier x
  pub below : (x y : D) → F.below x y ↔ G.below x y
  pub start : G.start ≡ F.start
  pub dropped : (n : ℕ) (x : D) → n < length sparse.nodes → (IsKept sparse.kept sparse.leads n → ⊥) → F.carrier x
      → F.transfer n x ≡ x
  pub kept : (p n : ℕ) (x : D) → slice_get sparse.kept p ≡ Some n → F.carrier x → G.transfer p x ≡ F.transfer n x

-- the data at these places of a list
abbrev pub data_at : {D : Type 0} → List D → List ℕ → List D
data_at held places = filter_map (slice_get held) places
