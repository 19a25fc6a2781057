use Rattle.call_expand.proofs.Numbered.{AreAdded}
use Rattle.call_expand.proofs.known.Known.add_new.Given as goal

abbrev pub invariant-loop-point : goal.invariant-loop-point
invariant-loop-point l = AreAdded l.initial.self l.points l.point-index l.self
