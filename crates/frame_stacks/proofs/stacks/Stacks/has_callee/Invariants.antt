use Rattle.std.proofs.Common.{◌≡◌, ◌≤◌, ◌==◌, length}
use Rattle.std.specs.List.{list_any}
use Rattle.frame_stacks.specs.Stacks.{frames_of}
use Rattle.frame_stacks.proofs.stacks.Stacks.has_callee.Given as goal

abbrev pub invariant-loop-at : goal.invariant-loop-at
invariant-loop-at l = record {
  known : l.at ≤ length l.self;
  none_above : list_any (λ frame. frame.callee == l.target) (frames_of l.self l.stack)
      ≡ list_any (λ frame. frame.callee == l.target) (frames_of l.self l.at);
}

abbrev pub decreases-loop-at : goal.decreases-loop-at
decreases-loop-at l = l.at
