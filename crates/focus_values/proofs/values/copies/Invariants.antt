use Rattle.std.proofs.Common.{take}
use Rattle.focus_values.specs.Exact.{AreCopies}
use Rattle.focus_values.proofs.values.copies.Given as goal

abbrev pub invariant-loop-node : goal.invariant-loop-node
invariant-loop-node l = AreCopies (take l.node l.solution.values) l.copies.items
