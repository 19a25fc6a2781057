use Rattle.plain_family.proofs.Smaller.{IsSmaller}
use Rattle.plain_family.proofs.Walk.{NoneHas}
use Rattle.plain_family.proofs.is_maximal.Given as goal

abbrev pub invariant-loop-other : goal.invariant-loop-other
invariant-loop-other l = NoneHas (IsSmaller l.set) l.sets l.other-index
