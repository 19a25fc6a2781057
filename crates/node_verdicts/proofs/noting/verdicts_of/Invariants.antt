use Rattle.std.proofs.Common.{length}
use Rattle.node_verdicts.specs.Noted.{IsHeadVerdict}
use Rattle.node_verdicts.proofs.Matched.{IsMatching}
use Rattle.node_verdicts.proofs.noting.verdicts_of.Given as goal

abbrev pub invariant-loop-one : goal.invariant-loop-one
invariant-loop-one l = IsMatching (IsHeadVerdict l.blocks) l.fn.judged.items l.left.items l.heads.items

abbrev pub decreases-loop-one : goal.decreases-loop-one
decreases-loop-one l = length l.left.items
