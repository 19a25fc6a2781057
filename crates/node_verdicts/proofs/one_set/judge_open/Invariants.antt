use Rattle.node_verdicts.proofs.Listed.{AreListed}
use Rattle.node_verdicts.proofs.one_set.judge_open.Given as goal

abbrev pub invariant-loop-node : goal.invariant-loop-node
invariant-loop-node l =
    AreListed l.ages l.fn.kept l.block l.nodes l.node-index l.addresses.items l.judged.items
