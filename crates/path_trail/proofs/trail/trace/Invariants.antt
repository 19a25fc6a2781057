use Rattle.path_trail.proofs.Chains.{IsPrefix, left}
use Rattle.path_trail.proofs.trail.trace.Given as goal

abbrev pub invariant-loop-next : goal.invariant-loop-next
invariant-loop-next g l = IsPrefix (g.T.Trail.entries l.trail) l.entry l.path.items l.next

abbrev pub decreases-loop-next : goal.decreases-loop-next
decreases-loop-next g l = left l.next
