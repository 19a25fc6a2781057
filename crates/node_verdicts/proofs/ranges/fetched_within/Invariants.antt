use Rattle.node_verdicts.proofs.Spans.{IsSpanSoFar}
use Rattle.node_verdicts.proofs.ranges.fetched_within.Given as goal

abbrev pub invariant-loop-node : goal.invariant-loop-node
invariant-loop-node l = IsSpanSoFar l.nodes l.geometry l.low l.high l.node-index l.span
