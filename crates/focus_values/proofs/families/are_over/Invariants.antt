use Rattle.focus_values.specs.Families.{HasUnder}
use Rattle.focus_values.proofs.Walked.{EachHas}
use Rattle.focus_values.proofs.families.are_over.Given as goal

abbrev pub invariant-loop-set : goal.invariant-loop-set
invariant-loop-set l = EachHas (HasUnder l.others) l.set-items l.set-index
