use Rattle.line_blocks.specs.Alone.{AreAlone}
use Rattle.line_blocks.proofs.drafting.alone.Given as goal

abbrev pub invariant-loop-node : goal.invariant-loop-node
invariant-loop-node l = AreAlone l.node l.numbers.items l.runs.items
