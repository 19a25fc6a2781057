use Rattle.sparse_graph.specs.Plan.{AreOwn}
use Rattle.sparse_graph.proofs.plan.are_own.Given as goal

abbrev pub invariant-loop-place : goal.invariant-loop-place
invariant-loop-place l = AreOwn l.count l.kept l.leads l.place
