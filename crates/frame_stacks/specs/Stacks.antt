-- Stacks of frames, of which several share their oldest frames. A stack is numbered: 0 has no frames, and a cell puts one
-- frame on a stack with a smaller number. The cell at place k makes stack k + 1.
use Rattle.std.specs.Prelude.{◌≡◌, ℕ, ◌≤◌, List, [], ◌∷◌, ◌++◌, length, Some, slice_get, slice_index_or, flat_map}
use Rattle.std.specs.Ordering.{nat_cmp}
use Rattle.std.specs.declared.cmp.Ordering.{Ordering}
use Rattle.std.specs.Cmp.Lexicographic.{slice_cmp}
use Rattle.flow_spec.specs.declared.frame.Frame.{Frame}
use Rattle.flow_spec.specs.Order.{frame_numbers}
use Rattle.frame_stacks.specs.declared.stacks.StackCell.{StackCell}

-- the frames that a cell makes a stack of, where the stacks so far are these
abbrev pub made_by : List (List Frame) → StackCell → List Frame
made_by stacks cell = slice_index_or stacks cell.below [] ++ cell.frame ∷ []

-- the stacks so far, and after them those that the cells make
abbrev pub stacks_after : List (List Frame) → List StackCell → List (List Frame)
stacks_after stacks [] = stacks
stacks_after stacks (cell ∷ cells) = stacks_after (stacks ++ made_by stacks cell ∷ []) cells

-- the stacks in the order of their numbers
abbrev pub stacks_of : List StackCell → List (List Frame)
stacks_of cells = stacks_after ([] ∷ []) cells

-- the frames of the stack with this number, the oldest first
abbrev pub frames_of : List StackCell → ℕ → List Frame
frames_of cells stack = slice_index_or (stacks_of cells) stack []

-- each cell stands on a stack before its own, and no two stacks have the same frames
pub record AreCells (cells : List StackCell) : Type 0 where
  pub below : (k : ℕ) (cell : StackCell) → slice_get cells k ≡ Some cell → cell.below ≤ k
  pub alone : (s t : ℕ) → s ≤ length cells → t ≤ length cells → frames_of cells s ≡ frames_of cells t → s ≡ t

-- frames as numbers, by which they are compared: from the oldest frame on, and a prefix comes first
abbrev pub frames_cmp : List Frame → List Frame → Ordering
frames_cmp frames others = slice_cmp nat_cmp (flat_map frame_numbers frames) (flat_map frame_numbers others)
