use Rattle.set_list.specs.SetList.{IsSubset}
use Rattle.plain_family.proofs.Walk.{NoneHas}
use Rattle.focus_values.proofs.families.includes_one.Given as goal

abbrev pub invariant-loop-other : goal.invariant-loop-other
invariant-loop-other l = NoneHas (λ t. IsSubset t l.set) l.others l.other-index
