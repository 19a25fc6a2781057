use Rattle.std.proofs.Common.{◌<◌, length}
use Rattle.focus_values.proofs.Walked.{EachHas}
use Rattle.focus_values.proofs.families.are_small.Given as goal

abbrev pub invariant-loop-set : goal.invariant-loop-set
invariant-loop-set l = EachHas (λ s. length s < l.ways) l.sets l.set-index
