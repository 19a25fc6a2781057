use Rattle.plain_family.specs.Family.{IsFamily}
use Rattle.plain_family.proofs.Walk.{Adds}
use Rattle.plain_family.proofs.PlainFamily.add_all.Given as goal

abbrev pub invariant-loop-set : goal.invariant-loop-set
invariant-loop-set l = record {
  sets : Adds l.initial.self l.sets l.set-index l.self;
  order : IsFamily l.self;
}
