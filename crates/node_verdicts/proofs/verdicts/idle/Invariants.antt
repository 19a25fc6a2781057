use Rattle.std.proofs.Common.{◌≡◌, length}
use Rattle.node_verdicts.proofs.verdicts.idle.Given as goal

abbrev pub invariant-loop : goal.invariant-loop
invariant-loop l = length l.states.items ≡ l.counter
