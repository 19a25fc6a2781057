use Rattle.std.specs.Prelude.{[]}
use Rattle.node_spec.specs.declared.verdict.Kept.{Kept}
use Rattle.node_verdicts.specs.Aged.{IsSettled}
use Rattle.node_verdicts.proofs.Block.{AreSoFar}
use Rattle.node_verdicts.proofs.one_set.judge_settled.Given as goal

-- no paths are needed
abbrev pub invariant-loop-node : goal.invariant-loop-node
invariant-loop-node l = (kept : Kept)
    → AreSoFar l.ages.view l.ages.start kept (IsSettled l.ages l.unclear) l.node [] l.judged.items
