use Rattle.age_exists.specs.Seen.{seen_as}
use Rattle.age_exists.proofs.Walked.{IsRetracing}
use Rattle.age_exists.proofs.retracing.retrace.Given as goal

abbrev pub invariant-loop-change : goal.invariant-loop-change
invariant-loop-change l = IsRetracing l.count l.changes l.change-index (seen_as l.steps)
