use Rattle.std.proofs.Common.{◌≢◌, ◌+◌, ◌<◌}
use Rattle.frame_stacks.specs.Parting.{GoesDown}
use Rattle.frame_stacks.proofs.stacks.Stacks.parting.Given as goal

abbrev pub invariant-loop-left : goal.invariant-loop-left
invariant-loop-left l = record {
  first : GoesDown l.self l.a l.left l.one;
  second : GoesDown l.self l.b l.right l.other;
  one_above : 0 < l.one → l.right < l.one;
  other_above : 0 < l.other → l.left < l.other;
  apart : 0 < l.one → l.one ≢ l.other;
}

abbrev pub decreases-loop-left : goal.decreases-loop-left
decreases-loop-left l = l.left + l.right
