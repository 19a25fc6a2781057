use Rattle.std.proofs.Common.{reverse}
use Rattle.sparse_graph.specs.Plan.{lead_of, rank_of}
use Rattle.sparse_graph.specs.Expand.{IsOnWay}
use Rattle.sparse_graph.proofs.expand.walk.Given as goal

abbrev pub invariant-loop-at : goal.invariant-loop-at
invariant-loop-at l =
    IsOnWay l.sparse (lead_of l.sparse.leads l.next) (reverse l.initial.whole.items) l.at (reverse l.whole.items)

abbrev pub decreases-loop-at : goal.decreases-loop-at
decreases-loop-at l = rank_of l.sparse.ranks l.at
