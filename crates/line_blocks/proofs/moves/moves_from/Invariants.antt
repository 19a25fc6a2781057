use Rattle.std.proofs.Common.{length, ◌-◌}
use Rattle.line_blocks.proofs.Counted.{IsCounted}
use Rattle.line_blocks.proofs.moves.moves_from.Given as goal

abbrev pub invariant-loop-at : goal.invariant-loop-at
invariant-loop-at l = IsCounted l.nodes l.numbers l.runs l.node l.at l.moves

abbrev pub decreases-loop-at : goal.decreases-loop-at
decreases-loop-at l = length l.nodes - l.at
