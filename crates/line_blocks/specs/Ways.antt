-- Ways of the whole graph for paths of the runs.
use Rattle.std.specs.Prelude.{◌≡◌, ℕ, zero, suc, ◌<◌, List, length, slice_get, slice_index_or}
use Rattle.transition_spec.specs.declared.way.Way.{Way}
use Rattle.transition_spec.specs.Named.{Names}
use Rattle.path_model.specs.declared.graph.Node.{Node}
use Rattle.path_model.specs.Graph.{graph_step}
use Rattle.line_blocks.specs.declared.plan.Run.{Run}
use Rattle.line_blocks.specs.Runs.{Runs, run_of, head_of, last_of}
use Rattle.line_blocks.specs.Expand.{IsExpanded, next_in}

-- the way names the path that one of the runs stands for
abbrev pub IsWayFor : Runs → List ℕ → Way → Type 0
IsWayFor r path way = (whole : List ℕ) × IsExpanded r path whole × Names (graph_step r.nodes) way whole

-- a node is the last of its run
abbrev pub IsLast : List ℕ → List Run → ℕ → Type 0
IsLast numbers runs n = last_of runs (run_of numbers n) ≡ n

-- where this many moves lead from a node, each to the first successor
abbrev pub after_moves : List Node → ℕ → ℕ → ℕ
after_moves nodes n zero = n
after_moves nodes n (suc count) = next_in (slice_get nodes (after_moves nodes n count))

-- from the node this many moves lead to the last node of a run, and fewer to none
pub record HasMoves (nodes : List Node) (numbers : List ℕ) (runs : List Run) (n count : ℕ) : Type 0 where
  pub last : IsLast numbers runs (after_moves nodes n count)
  pub sooner : (k : ℕ) → k < count → IsLast numbers runs (after_moves nodes n k) → ⊥

-- the number of moves from the first node of each run to its last one
abbrev pub AreMoves : List Node → List ℕ → List Run → List ℕ → Type 0
AreMoves nodes numbers runs moves = (p : ℕ) → p < length runs
    → HasMoves nodes numbers runs (head_of runs p) (slice_index_or moves p 0)

-- each node that isn't the last of its run moves on to a later node
abbrev pub AllMoveOn : List Node → List ℕ → List Run → Type 0
AllMoveOn nodes numbers runs = (n : ℕ) → n < length nodes → (IsLast numbers runs n → ⊥)
    → (n < next_in (slice_get nodes n)) × (next_in (slice_get nodes n) < length nodes)

-- the first nodes of the runs are nodes
abbrev pub AreHeads : List Node → List Run → Type 0
AreHeads nodes runs = (p : ℕ) → p < length runs → head_of runs p < length nodes
