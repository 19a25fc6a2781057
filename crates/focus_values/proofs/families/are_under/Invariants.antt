use Rattle.focus_values.specs.Families.{HasOver}
use Rattle.focus_values.proofs.Walked.{EachHas}
use Rattle.focus_values.proofs.families.are_under.Given as goal

abbrev pub invariant-loop-set : goal.invariant-loop-set
invariant-loop-set l = EachHas (HasOver l.others) l.set-items l.set-index
