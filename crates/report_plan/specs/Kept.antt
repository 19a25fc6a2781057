-- What a plan keeps of the nodes of a graph.
use Rattle.std.specs.Prelude.{◌≡◌, ◌↔◌, ℕ, ◌<◌, ◌≤◌, nat_lt, if◌then◌else◌, List, length, Option, Some, None, slice_index, slice_set}
use Rattle.std.specs.List.{Contains}
use Rattle.std.specs.List.Sorted.{IsNonDecreasingBy}
use Rattle.transition_spec.specs.Path.{IsSuccessor}
use Rattle.path_model.specs.declared.graph.Node.{Node}
use Rattle.path_model.specs.Graph.{graph_step, address_of}
use Rattle.flow_spec.specs.Configuration.{Configuration, fetched}
use Rattle.call_expand.specs.Expansion.{numbered}

-- the numbers of the nodes, and for each node but the first the number of a smaller one that it follows
pub record Kept : Type 0 where
  pub order : List ℕ
  pub before : List ℕ

-- the numbers are those of all nodes, each once, in order of address
pub record AreInOrder (nodes : List Node) (order : List ℕ) : Type 0 where
  pub one_each : length order ≡ length nodes
  pub rising : IsNonDecreasingBy (address_of nodes) order
  pub members : (n : ℕ) → Contains order n ↔ (n < length nodes)

-- each node has a configuration, and the address that this one fetches
pub record AreFetched (configurations : List Configuration) (nodes : List Node) : Type 0 where
  pub one_each : length configurations ≡ length nodes
  pub fetches : (n : ℕ) → n < length nodes → address_of nodes n ≡ fetched (numbered configurations n)

-- at the place of each node but the first stands the number of a smaller one that it follows
pub record AreBefore (nodes : List Node) (before : List ℕ) : Type 0 where
  pub one_each : length before ≡ length nodes
  pub smaller : (m : ℕ) → 1 ≤ m → m < length nodes → slice_index before m < m
  pub leads : (m : ℕ) → 1 ≤ m → m < length nodes → IsSuccessor (graph_step nodes) (slice_index before m) m

-- what is kept is of these nodes
pub record IsPlanOf (nodes : List Node) (kept : Kept) : Type 0 where
  pub order : AreInOrder nodes kept.order
  pub before : AreBefore nodes kept.before

-- a node is noted at the place of one that it leads to, where that is greater
abbrev pub noted : List ℕ → ℕ → Option ℕ → List ℕ
noted before from None = before
noted before from (Some to) = if nat_lt from to then slice_set before to from else before

-- a smaller number that is noted is that of a node before, and each of the first `count` nodes that has a greater
-- successor left a smaller number there
pub record AreNoted (nodes : List Node) (count : ℕ) (before : List ℕ) : Type 0 where
  pub one_each : length before ≡ length nodes
  pub sound : (m : ℕ) → m < length nodes → slice_index before m < m
      → IsSuccessor (graph_step nodes) (slice_index before m) m
  pub complete : (n m : ℕ) → n < count → n < m → m < length nodes → IsSuccessor (graph_step nodes) n m
      → slice_index before m < m
