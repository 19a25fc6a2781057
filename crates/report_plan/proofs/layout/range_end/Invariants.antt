use Rattle.std.proofs.Common.{◌-◌, ◌^◌}
use Rattle.report_plan.proofs.Bare.{IsBareTo}
use Rattle.report_plan.proofs.layout.range_end.Given as goal

abbrev pub invariant-loop-next : goal.invariant-loop-next
invariant-loop-next l = IsBareTo l.layout l.first l.last

abbrev pub decreases-loop-next : goal.decreases-loop-next
decreases-loop-next l = 2 ^ 32 - l.last
