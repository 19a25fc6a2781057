use Rattle.flow_spec.specs.Successors.{successors}
use Rattle.call_expand.proofs.Edges.{AreFollowed}
use Rattle.call_expand.proofs.follow.follow_all.Given as goal

abbrev pub invariant-loop-point : goal.invariant-loop-point
invariant-loop-point l =
    AreFollowed (successors l.fn.program) l.fn.program l.fn.stacks l.points l.point-index l.stacks l.fn.edges.items
    l.edges.items
