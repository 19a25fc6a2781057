use Rattle.std.proofs.Common.{ℕ, ◌-◌, ◌<◌, ◌≤◌, length}
use Rattle.lattice_fix.specs.Waits.{IsDone, AreMarked}
use Rattle.lattice_fix.proofs.waiting.next_set.Given as goal

abbrev pub invariant-loop-place : goal.invariant-loop-place
invariant-loop-place l = record {
  within : l.place ≤ length l.flags;
  done : (n : ℕ) → n < l.place → IsDone l.flags n;
  marked : AreMarked l.flags l.marks;
}

abbrev pub decreases-loop-place : goal.decreases-loop-place
decreases-loop-place l = length l.flags - l.place
