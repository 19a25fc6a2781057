use Rattle.node_verdicts.specs.Open.{lists_seen}
use Rattle.node_verdicts.proofs.Opened.{AreBelow}
use Rattle.node_verdicts.proofs.open_fetches.OpenFetches.of.Given as goal

abbrev pub invariant-loop-node : goal.invariant-loop-node
invariant-loop-node l = AreBelow l.ages l.node (lists_seen l.by_block.items)
