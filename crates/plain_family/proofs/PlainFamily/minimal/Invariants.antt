use Rattle.plain_family.specs.Family.{IsFamily, IsMinimal}
use Rattle.plain_family.proofs.Walk.{Keeps}
use Rattle.plain_family.proofs.PlainFamily.minimal.Given as goal

abbrev pub invariant-loop-set : goal.invariant-loop-set
invariant-loop-set l = record {
  sets : Keeps (IsMinimal l.sets) l.sets l.set-index l.family;
  order : IsFamily l.family;
}
