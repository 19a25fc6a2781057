use Rattle.std.proofs.Common.{◌≡◌, take}
use Rattle.age_exists.proofs.one_block.values_of.Given as goal

abbrev pub invariant-loop-node : goal.invariant-loop-node
invariant-loop-node l = l.values.items ≡ take l.node l.solution.values
