use Rattle.path_model.specs.Marks.{AreMarked}
use Rattle.path_model.proofs.graph.mark_all.Given as goal

abbrev pub invariant-loop-index : goal.invariant-loop-index
invariant-loop-index l = AreMarked l.nodes l.index l.marks
