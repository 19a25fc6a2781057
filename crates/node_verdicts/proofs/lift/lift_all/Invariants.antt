use Rattle.std.proofs.Common.{length}
use Rattle.node_verdicts.specs.Lifted.{IsLifted}
use Rattle.node_verdicts.proofs.Matched.{IsMatching}
use Rattle.node_verdicts.proofs.lift.lift_all.Given as goal

abbrev pub invariant-loop-one : goal.invariant-loop-one
invariant-loop-one l = IsMatching (IsLifted l.sparse) l.fn.judged.items l.left.items l.lifted.items

abbrev pub decreases-loop-one : goal.decreases-loop-one
decreases-loop-one l = length l.left.items
