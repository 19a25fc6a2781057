use Rattle.age_exists.specs.Unclear.{numbers_of, AreMarks}
use Rattle.age_exists.proofs.unclear_fetches.marks_of.Given as goal

abbrev pub invariant-loop-node : goal.invariant-loop-node
invariant-loop-node l =
    AreMarks l.view (numbers_of l.must l.may l.hit.columns l.miss.columns) l.node l.marks.items
