use Rattle.std.proofs.Common.{◌≡◌, ◌+◌, ◌≤◌, length}
use Rattle.frame_stacks.specs.Stacks.{frames_of}
use Rattle.frame_stacks.proofs.stacks.Stacks.depth.Given as goal

abbrev pub invariant-loop-at : goal.invariant-loop-at
invariant-loop-at l = record {
  known : l.at ≤ length l.self;
  counted : l.depth + length (frames_of l.self l.at) ≡ length (frames_of l.self l.stack);
  few : l.depth + l.at ≤ l.stack;
}

abbrev pub decreases-loop-at : goal.decreases-loop-at
decreases-loop-at l = l.at
