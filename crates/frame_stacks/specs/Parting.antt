-- Where two stacks part: the stacks right above the newest one that is below both.
use Rattle.std.specs.Prelude.{◌≡◌, ◌≢◌, ℕ, ◌<◌, ◌≤◌, List, [], ◌∷◌, ◌++◌, length}
use Rattle.std.specs.Ordering.{nat_cmp}
use Rattle.std.specs.declared.cmp.Ordering.{Ordering}
use Rattle.std.specs.Cmp.Lexicographic.{slice_cmp}
use Rattle.flow_spec.specs.declared.frame.Frame.{Frame}
use Rattle.flow_spec.specs.Order.{frame_numbers}
use Rattle.frame_stacks.specs.declared.stacks.StackCell.{StackCell}
use Rattle.frame_stacks.specs.Stacks.{frames_of}

-- what the stack `next` has above `low`, and the stack `high` above that
pub record HasNext (cells : List StackCell) (high low next : ℕ) : Type 0 where
  pub top : Frame
  pub above : List Frame
  pub known : next ≤ length cells
  pub one_more : frames_of cells next ≡ frames_of cells low ++ top ∷ []
  pub whole : frames_of cells high ≡ frames_of cells low ++ top ∷ above

-- down from `high` to `low`, `next` was the last before; 0 where they are one
pub record GoesDown (cells : List StackCell) (high low next : ℕ) : Type 0 where
  pub known : low ≤ length cells
  pub arrived : next ≡ 0 → high ≡ low
  pub stepped : 0 < next → HasNext cells high low next

-- from some stack that both go down to, a goes up by one frame to `one`, and b by another frame to `other`
pub record Part (cells : List StackCell) (a b one other : ℕ) : Type 0 where
  pub common : ℕ
  pub first : GoesDown cells a common one
  pub second : GoesDown cells b common other
  pub apart : 0 < one → frames_of cells one ≢ frames_of cells other

-- two frames by their numbers
abbrev pub frame_cmp : Frame → Frame → Ordering
frame_cmp frame other = slice_cmp nat_cmp (frame_numbers frame) (frame_numbers other)
