use Rattle.std.proofs.Common.{◌≡◌, ℕ, ◌<◌, get_or}
use Rattle.age_exists.proofs.first_bounds.are_all.Given as goal

abbrev pub invariant-loop-node : goal.invariant-loop-node
invariant-loop-node l = (k : ℕ) → k < l.node-index → get_or l.bounds (get_or l.nodes k 0) 0 ≡ l.bound
