use Rattle.std.proofs.Common.{length}
use Rattle.node_verdicts.proofs.Searched.{IsNotedTo}
use Rattle.node_verdicts.proofs.verdicts.search.Given as goal

-- what is found of the first jobs is noted
abbrev pub invariant-loop-heads : goal.invariant-loop-heads
invariant-loop-heads g l = IsNotedTo l.job (length l.yielded) l.all.items
