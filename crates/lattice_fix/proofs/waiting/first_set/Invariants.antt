use Rattle.std.proofs.Common.{ℕ, ◌<◌}
use Rattle.lattice_fix.specs.Waits.{IsDone}
use Rattle.lattice_fix.proofs.waiting.first_set.Given as goal

abbrev pub invariant-loop-place : goal.invariant-loop-place
invariant-loop-place l = (n : ℕ) → n < l.place → IsDone l.flags n
