use Rattle.report_plan.specs.Kept.{AreNoted}
use Rattle.report_plan.proofs.before.note_all.Given as goal

abbrev pub invariant-loop-index : goal.invariant-loop-index
invariant-loop-index l = AreNoted l.nodes l.index l.before
