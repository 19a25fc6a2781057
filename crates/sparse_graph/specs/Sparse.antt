-- Sparse evaluation graphs, after Choi, Cytron and Ferrante 1991: a flow graph's kept nodes, with an edge wherever a
-- path goes from one of them to another over none but dropped nodes.
use Rattle.std.specs.Prelude.{◌≡◌, ℕ, ◌<◌, ◌≤◌, ◌==◌, if◌then◌else◌, List, length, map, Option, Some, None, slice_get}
use Rattle.std.specs.Option.{option_map}
use Rattle.cache_spec.specs.Geometry.{Geometry, block_of, set_of}
use Rattle.path_model.specs.declared.graph.Node.{Node}
use Rattle.path_model.specs.Graph.{IsGraph, address_of}
use Rattle.sparse_graph.specs.Plan.{lead_of, IsKept, IsPlan}

-- a flow graph, a smaller one that stands for it, and the plan by which it does
pub record Sparse : Type 0 where
  pub nodes : List Node
  pub small : List Node
  pub kept : List ℕ
  pub leads : List ℕ
  pub ranks : List ℕ

-- the second of two successors, unless it is the first
abbrev pub another : Option ℕ → Option ℕ → Option ℕ
another None second = None
another (Some first) None = None
another (Some first) (Some second) = if second == first then None else Some second

-- a node whose successors are the places that its own lead to
abbrev pub moved : List ℕ → Node → Node
moved leads node = record {
  at = node.at;
  first = option_map (lead_of leads) node.first;
  second = another (option_map (lead_of leads) node.first) (option_map (lead_of leads) node.second);
}

-- the same where there is a node
abbrev pub moved_or : List ℕ → Option Node → Node
moved_or leads None = record { at = 0; first = None; second = None }
moved_or leads (Some node) = moved leads node

-- the node with this number, moved
abbrev pub moved_at : List Node → List ℕ → ℕ → Node
moved_at nodes leads n = moved_or leads (slice_get nodes n)

-- both are flow graphs, and the smaller one has the kept nodes of a plan, moved
pub record IsSparse (sparse : Sparse) : Type 0 where
  pub whole : IsGraph sparse.nodes
  pub graph : IsGraph sparse.small
  pub plan : IsPlan sparse.nodes sparse.kept sparse.leads sparse.ranks
  pub made : sparse.small ≡ map (moved_at sparse.nodes sparse.leads) sparse.kept

-- a dropped node fetches nothing, and a kept one the same in both graphs
pub record FetchAlike (sparse : Sparse) (fetch small_fetch : ℕ → Option ℕ) : Type 0 where
  pub none : (n : ℕ) → n < length sparse.nodes → (IsKept sparse.kept sparse.leads n → ⊥) → fetch n ≡ None
  pub same : (p n : ℕ) → slice_get sparse.kept p ≡ Some n → small_fetch p ≡ fetch n

-- each node that fetches a block of the set is kept
abbrev pub KeepsSet : Sparse → Geometry → ℕ → Type 0
KeepsSet sparse g set = (n : ℕ) → n < length sparse.nodes → set_of g (block_of g (address_of sparse.nodes n)) ≡ set
    → IsKept sparse.kept sparse.leads n

-- the same of each set of a range
abbrev pub KeepsSets : Sparse → Geometry → ℕ → ℕ → Type 0
KeepsSets sparse g low high = (set : ℕ) → low ≤ set → set < high → KeepsSet sparse g set
