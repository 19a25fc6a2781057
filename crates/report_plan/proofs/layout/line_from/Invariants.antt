use Rattle.report_plan.proofs.Lines.{IsPassed, left}
use Rattle.report_plan.proofs.layout.line_from.Given as goal

abbrev pub invariant-loop-next : goal.invariant-loop-next
invariant-loop-next l = IsPassed l.layout l.from l.next

abbrev pub decreases-loop-next : goal.decreases-loop-next
decreases-loop-next l = left l.next
