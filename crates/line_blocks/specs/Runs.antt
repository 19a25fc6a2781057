-- The l-blocks of a graph: runs of fetches of one line of the cache, one after another, that are entered only at their
-- first. The graph of the runs stands for the whole one: what paths can do at the first node of a run they can do at the
-- run in the small graph, and each other node of a run always hits.
use Rattle.std.specs.Prelude.{◌≡◌, ◌==◌, ◌⊎◌, ℕ, ◌<◌, ◌≤◌, if◌then◌else◌, Bool, List, ◌∷◌, length, map, Option, Some, None, slice_get, slice_index_or}
use Rattle.std.specs.Option.{option_map}
use Rattle.transition_spec.specs.Path.{IsPath}
use Rattle.cache_spec.specs.Geometry.{Geometry, block_of}
use Rattle.cache_spec.specs.declared.start.Start.{Start}
use Rattle.path_model.specs.declared.graph.Node.{Node}
use Rattle.path_model.specs.Graph.{IsGraph, graph_step, address_of}
use Rattle.focus_spec.specs.Fate.{PathCanEnd}
use Rattle.line_blocks.specs.declared.plan.Run.{Run}

-- the run that a node is in
abbrev pub run_of : List ℕ → ℕ → ℕ
run_of numbers n = slice_index_or numbers n 0

abbrev pub head_in : Option Run → ℕ
head_in None = 0
head_in (Some run) = run.head

abbrev pub last_in : Option Run → ℕ
last_in None = 0
last_in (Some run) = run.last

-- the first node of a run
abbrev pub head_of : List Run → ℕ → ℕ
head_of runs p = head_in (slice_get runs p)

-- and its last one
abbrev pub last_of : List Run → ℕ → ℕ
last_of runs p = last_in (slice_get runs p)

-- a node is the first of its run
abbrev pub IsHead : List ℕ → List Run → ℕ → Type 0
IsHead numbers runs n = head_of runs (run_of numbers n) ≡ n

-- a successor, if there is one, is the first of its run
abbrev pub IsHeadIf : List ℕ → List Run → Option ℕ → Type 0
IsHeadIf numbers runs None = Unit {0}
IsHeadIf numbers runs (Some m) = IsHead numbers runs m

-- m is in the run of n, not as its first, fetches the same block, and is a later node
abbrev pub IsInner : List Node → Geometry → List ℕ → List Run → ℕ → ℕ → Type 0
IsInner nodes g numbers runs n m = (IsHead numbers runs m → ⊥) × (run_of numbers m ≡ run_of numbers n)
    × (block_of g (address_of nodes m) ≡ block_of g (address_of nodes n)) × (n < m)

-- there is one successor, and it goes on with the run of n
abbrev pub IsPassedBy : List Node → Geometry → List ℕ → List Run → ℕ → Option ℕ → Option ℕ → Type 0
IsPassedBy nodes g numbers runs n None second = ⊥
IsPassedBy nodes g numbers runs n (Some m) None = IsInner nodes g numbers runs n m
IsPassedBy nodes g numbers runs n (Some m) (Some other) = ⊥

-- the same of the node with the number n
abbrev pub IsPassed : List Node → Geometry → List ℕ → List Run → ℕ → Option Node → Type 0
IsPassed nodes g numbers runs n None = ⊥
IsPassed nodes g numbers runs n (Some node) = IsPassedBy nodes g numbers runs n node.first node.second

-- a node is the last of its run, or goes on with it
abbrev pub IsLed : List Node → Geometry → List ℕ → List Run → ℕ → Type 0
IsLed nodes g numbers runs n = (run_of numbers n < length runs)
    × ((last_of runs (run_of numbers n) ≡ n) ⊎ IsPassed nodes g numbers runs n (slice_get nodes n))

-- all successors of a node are the first ones of their runs
abbrev pub IsLeft : List ℕ → List Run → Option Node → Type 0
IsLeft numbers runs None = ⊥
IsLeft numbers runs (Some node) = IsHeadIf numbers runs node.first × IsHeadIf numbers runs node.second

-- the run p has its first node and its last one, and is left from that one
abbrev pub IsRun : List Node → List ℕ → List Run → ℕ → Type 0
IsRun nodes numbers runs p = (head_of runs p < length nodes) × (run_of numbers (head_of runs p) ≡ p)
    × (run_of numbers (last_of runs p) ≡ p) × IsLeft numbers runs (slice_get nodes (last_of runs p))

-- these numbers and runs are a plan: node 0 is the first of run 0; each node is in a run, as its last or going on with it
abbrev pub IsPlan : List Node → Geometry → List ℕ → List Run → Type 0
IsPlan nodes g numbers runs = (head_of runs 0 ≡ 0)
    × ((n : ℕ) → n < length nodes → IsLed nodes g numbers runs n)
    × ((p : ℕ) → p < length runs → IsRun nodes numbers runs p)

-- the second of two successors, unless it is the first
abbrev pub second_by : Option ℕ → Option ℕ → Option ℕ
second_by None second = None
second_by (Some first) None = None
second_by (Some first) (Some second) = if second == first then None else Some second

-- the successors of a node, by their runs
abbrev pub node_by : List ℕ → ℕ → Option Node → Node
node_by numbers at None = record { at = at; first = None; second = None }
node_by numbers at (Some node) = record {
  at = at;
  first = option_map (run_of numbers) node.first;
  second = second_by (option_map (run_of numbers) node.first) (option_map (run_of numbers) node.second);
}

-- a run as a node: it fetches what its first node does, and goes where its last node does
abbrev pub run_node : List Node → List ℕ → Run → Node
run_node nodes numbers run = node_by numbers (address_of nodes run.head) (slice_get nodes run.last)

-- a graph and its runs, for the lines of a cache: the whole graph, that of the runs, the run of each node, and each run
pub record Runs : Type 0 where
  pub nodes : List Node
  pub shape : Geometry
  pub small : List Node
  pub numbers : List ℕ
  pub runs : List Run

-- what holds of the runs of a graph
pub record AreRuns (r : Runs) : Type 0 where
  pub ways : 1 ≤ r.shape.ways
  pub whole : IsGraph r.nodes
  pub graph : IsGraph r.small
  pub plan : IsPlan r.nodes r.shape r.numbers r.runs
  pub made : r.small ≡ map (run_node r.nodes r.numbers) r.runs

-- the first nodes of later runs have greater numbers
abbrev pub AreRising : List Run → Type 0
AreRising runs = (p q : ℕ) → p < q → q < length runs → head_of runs p < head_of runs q

-- some path that ends in the node can hit there, or can miss
abbrev pub SomeEnds : List Node → Geometry → Start → ℕ → Bool → Type 0
SomeEnds nodes g start n hits = (earlier : List ℕ) × IsPath (graph_step nodes) 0 (n ∷ earlier)
    × PathCanEnd nodes g start (n ∷ earlier) hits
