-- Points, which are configurations whose frames are a numbered stack.
use Rattle.std.specs.Prelude.{◌≡◌, ℕ, ◌+◌, ◌*◌, ◌^◌, ◌<◌, ◌≤◌, List, ◌∷◌, ◌++◌, length, map, [], Some, None, Ok, Err}
use Rattle.std.specs.List.{AllByRecursion, AllZip}
use Rattle.std.specs.Option.{option_to_list}
use Rattle.std.specs.declared.cmp.Ordering.{Ordering}
use Rattle.flow_spec.specs.Acceptance.{Step, IsFaultless}
use Rattle.flow_spec.specs.Configuration.{Configuration, configuration}
use Rattle.flow_spec.specs.Instruction.{IsText}
use Rattle.flow_spec.specs.Order.{configuration_cmp}
use Rattle.flow_spec.specs.Program.{Program}
use Rattle.flow_spec.specs.declared.fault.FlowFault.{FlowFault}
use Rattle.flow_spec.specs.declared.frame.Frame.{Frame}
use Rattle.flow_spec.specs.declared.next.Next.TheVariants.{Enter}
use Rattle.flow_spec.specs.Successors.{leads_to}
use Rattle.path_model.specs.declared.graph.Node.{Node}
use Rattle.frame_stacks.specs.declared.stacks.StackCell.{StackCell}
use Rattle.path_model.specs.Graph.{IsGraph}
use Rattle.frame_stacks.specs.Stacks.{AreCells, frames_of}
use Rattle.call_expand.specs.declared.point.Point.{Point}
use Rattle.call_expand.specs.declared.point.Edges.{Edges}

-- the configuration at a point, and those at some points
abbrev pub configuration_at : List StackCell → Point → Configuration
configuration_at cells point = record { frames = frames_of cells point.stack; at = point.at; part = point.part }

abbrev pub configurations_at : List StackCell → List Point → List Configuration
configurations_at cells points = map (configuration_at cells) points

-- the address that a point fetches
abbrev pub fetched_by : Point → ℕ
fetched_by point = point.at + 2 * point.part

-- points in the order of their configurations
abbrev pub point_cmp : List StackCell → Point → Point → Ordering
point_cmp cells a b = configuration_cmp (configuration_at cells a) (configuration_at cells b)

-- the cells make its stack, its address is in the text, and what it fetches has an address
pub record IsPoint (program : Program) (cells : List StackCell) (point : Point) : Type 0 where
  pub known : point.stack ≤ length cells
  pub text : IsText program.isa program.image point.at
  pub fits : fetched_by point < 2 ^ 32

abbrev pub ArePoints : Program → List StackCell → List Point → Type 0
ArePoints program cells points = AllByRecursion (IsPoint program cells) points

-- there may be more cells, and the stacks of those before are the same
pub record GoesOn (before after : List StackCell) : Type 0 where
  pub longer : length before ≤ length after
  pub kept : (s : ℕ) → s ≤ length before → frames_of after s ≡ frames_of before s

-- the points that edges lead to, in order
abbrev pub points_of : Edges → List Point
points_of edges = option_to_list edges.first ++ option_to_list edges.second

-- the edges of a point lead to its successors, in order: a second one only after a first, and to another address
pub record IsEdge (step : Step) (program : Program) (cells : List StackCell) (point : Point)
    (edges : Edges) : Type 0 where
  pub goes : step (configuration_at cells point) ≡ Ok (configurations_at cells (points_of edges))
  pub points : ArePoints program cells (points_of edges)
  pub first : edges.first ≡ None → edges.second ≡ None
  pub apart : (a b : Point) → edges.first ≡ Some a → edges.second ≡ Some b → a.at ≡ b.at → ⊥

-- c is the first faulty one of these configurations, and has this fault
pub record FailsAt (step : Step) (configurations : List Configuration) (fault : FlowFault) : Type 0 where
  pub before : List Configuration
  pub c : Configuration
  pub after : List Configuration
  pub split : configurations ≡ before ++ c ∷ after
  pub faultless : AllByRecursion (IsFaultless step) before
  pub faulty : step c ≡ Err fault

-- points with a node each, which has the address that the point fetches, of stacks that the cells make
pub record AreExpanded (cells : List StackCell) (points : List Point) (nodes : List Node) : Type 0 where
  pub known : AllByRecursion (λ point. point.stack ≤ length cells) points
  pub are_cells : AreCells cells
  pub graph : IsGraph nodes
  pub as_many : length nodes ≡ length points
  pub fetches : AllZip (λ point node. node.at ≡ fetched_by point) points nodes

-- a call leads to its target, on a stack of the frames so far and the one that it opens
pub record Opens (entry : ℕ) (before after : List StackCell) (point : Point) (target : ℕ) (frame : Frame)
    (edges : Edges) : Type 0 where
  pub stack : ℕ
  pub is : edges ≡ record { first = Some (record { at = target; part = 0; stack = stack }); second = None }
  pub known : stack ≤ length after
  pub goes : leads_to entry (frames_of before point.stack) point.at (Enter target frame)
      ≡ Ok (configuration (frames_of after stack) target ∷ [])

-- all these points are followed: their edges stand after the others, and there is at most one cell more for each
pub record AreAllFollowed (step : Step) (program : Program) (before after : List StackCell) (points : List Point)
    (old new : List Edges) : Type 0 where
  pub goes_on : GoesOn before after
  pub few : length after ≤ length before + length points
  pub more : List Edges
  pub is : new ≡ old ++ more
  pub each : AllZip (IsEdge step program after) points more
