use Rattle.line_blocks.proofs.Counted.{AreCounted}
use Rattle.line_blocks.proofs.moves.moves_of.Given as goal

abbrev pub invariant-loop-run : goal.invariant-loop-run
invariant-loop-run l = AreCounted l.nodes l.numbers l.runs l.run l.moves.items
