-- Flow graphs. A node is numbered by its place in the list of nodes, from 0 on.
use Rattle.std.specs.Prelude.{ℕ, ◌<◌, ◌≤◌, Bool, true, false, not, ◌&&◌, ◌==◌, nat_lt, IsTrue, List, ◌++◌, length, map, Option, Some, None, Result, Ok, Err, slice_get}
use Rattle.std.specs.List.{list_all}
use Rattle.std.specs.Option.{option_to_list}
use Rattle.transition_spec.specs.Path.{IsSuccessor}
use Rattle.path_model.specs.declared.graph.Node.{Node}

-- the successors of a node in order, or a fault where there is no node
abbrev pub successors : Option Node → Result (List ℕ) (Unit {0})
successors None = Err tt
successors (Some node) = Ok (option_to_list node.first ++ option_to_list node.second)

-- the successors of the node with this number
abbrev pub graph_step : List Node → ℕ → Result (List ℕ) (Unit {0})
graph_step nodes n = successors (slice_get nodes n)

-- the address that a node fetches, or 0 where there is no node
abbrev pub address : Option Node → ℕ
address None = 0
address (Some node) = node.at

-- the address that the node with this number fetches
abbrev pub address_of : List Node → ℕ → ℕ
address_of nodes n = address (slice_get nodes n)

-- the addresses that the nodes fetch, one for each node
abbrev pub addresses_of : List Node → List ℕ
addresses_of nodes = map (λ (node : Node). node.at) nodes

-- two successors are below the count: a second one only after a first, and another than it
abbrev pub are_fit : ℕ → Option ℕ → Option ℕ → Bool
are_fit count None None = true
are_fit count None (Some second) = false
are_fit count (Some first) None = nat_lt first count
are_fit count (Some first) (Some second) = nat_lt first count && (nat_lt second count && not (first == second))

-- the successors of a node are fit
abbrev pub is_fit : ℕ → Node → Bool
is_fit count node = are_fit count node.first node.second

-- a list of nodes is a graph: 1 to 65,536 nodes whose successors are fit, and each but node 0 follows a smaller number
pub record IsGraph (nodes : List Node) : Type 0 where
  pub some : 1 ≤ length nodes
  pub few : length nodes ≤ 65536
  pub fit : IsTrue (list_all (is_fit (length nodes)) nodes)
  pub reached : (m : ℕ) → 1 ≤ m → m < length nodes → (n : ℕ) × (n < m) × IsSuccessor (graph_step nodes) n m
