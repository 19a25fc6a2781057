use Rattle.plain_family.proofs.Smaller.{IsSmaller}
use Rattle.plain_family.proofs.Walk.{NoneHas}
use Rattle.plain_family.proofs.is_minimal.Given as goal

abbrev pub invariant-loop-other : goal.invariant-loop-other
invariant-loop-other l = NoneHas (λ t. IsSmaller t l.set) l.sets l.other-index
