use Rattle.std.proofs.Common.{◌<◌, length}
use Rattle.plain_family.specs.Family.{IsFamily}
use Rattle.plain_family.proofs.Walk.{Keeps}
use Rattle.plain_family.proofs.PlainFamily.below.Given as goal

abbrev pub invariant-loop-set : goal.invariant-loop-set
invariant-loop-set l = record {
  sets : Keeps (λ s. length s < l.k) l.sets l.set-index l.family;
  order : IsFamily l.family;
}
