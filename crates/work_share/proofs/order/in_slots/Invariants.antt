use Rattle.work_share.proofs.Slots.{IsPartlyPut}
use Rattle.work_share.proofs.order.in_slots.Given as goal

abbrev pub invariant-loop-entry : goal.invariant-loop-entry
invariant-loop-entry g l = IsPartlyPut l.jobs l.initial.results.items l.results.items l.slots.items

abbrev pub decreases-loop-entry : goal.decreases-loop-entry
decreases-loop-entry g l = goal.left-loop-entry g l
