use Rattle.plain_family.specs.Family.{IsFamily}
use Rattle.plain_family.proofs.Walk.{Grows}
use Rattle.plain_family.proofs.PlainFamily.insert_each.Given as goal

abbrev pub invariant-loop-set : goal.invariant-loop-set
invariant-loop-set l = record {
  sets : Grows l.x l.sets l.set-index l.family;
  order : IsFamily l.family;
}
