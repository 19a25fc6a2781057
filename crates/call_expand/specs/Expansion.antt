-- The configurations of an accepted program by their numbers, and the graph of these numbers.
use Rattle.std.specs.Prelude.{◌≡◌, ℕ, ◌<◌, List, ◌++◌, length, map, Ok, slice_index_or}
use Rattle.std.specs.List.{AllZip}
use Rattle.std.specs.Option.{option_to_list}
use Rattle.flow_spec.specs.Acceptance.{Step}
use Rattle.flow_spec.specs.Configuration.{Configuration, start_of, fetched}
use Rattle.path_model.specs.declared.graph.Node.{Node}
use Rattle.path_model.specs.Graph.{IsGraph}
use Rattle.frame_stacks.specs.declared.stacks.StackCell.{StackCell}

-- the configurations and the nodes by number, the cells of the stacks, and the stack of each configuration
pub record Expansion : Type 0 where
  pub configurations : List Configuration
  pub nodes : List Node
  pub cells : List StackCell
  pub stacks : List ℕ

-- the configuration with a number, or one at address 0 where there is none
abbrev pub numbered : List Configuration → ℕ → Configuration
numbered configurations n = slice_index_or configurations n (start_of 0)

-- a node has the address that its configuration fetches, and the numbers of that one's successors in their order
pub record IsNodeOf (step : Step) (configurations : List Configuration) (c : Configuration) (node : Node) : Type 0 where
  pub at : node.at ≡ fetched c
  pub goes : step c ≡ Ok (map (numbered configurations) (option_to_list node.first ++ option_to_list node.second))

-- the nodes are the graph of these configurations, of which no two are equal and the first is the start
pub record IsGraphOf (step : Step) (entry : ℕ) (configurations : List Configuration) (nodes : List Node) : Type 0 where
  pub begins : numbered configurations 0 ≡ start_of entry
  pub each : AllZip (IsNodeOf step configurations) configurations nodes
  pub graph : IsGraph nodes
  pub apart : (n m : ℕ) → n < length configurations → m < length configurations
      → numbered configurations n ≡ numbered configurations m → n ≡ m
