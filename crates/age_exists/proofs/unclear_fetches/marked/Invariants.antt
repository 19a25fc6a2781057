use Rattle.age_exists.specs.Unclear.{AreMarked}
use Rattle.age_exists.proofs.unclear_fetches.marked.Given as goal

abbrev pub invariant-loop-place : goal.invariant-loop-place
invariant-loop-place l = AreMarked l.marks l.place l.locals.items
