use Rattle.std.specs.Prelude.{ℕ, ◌<◌, slice_index}
use Rattle.node_verdicts.specs.Witnesses.{IsShownAt}
use Rattle.node_verdicts.proofs.bounds.are_shown.Given as goal

-- each of the first nodes is shown
abbrev pub invariant-loop-node : goal.invariant-loop-node
invariant-loop-node l = (k : ℕ) → k < l.node-index → IsShownAt l.bounds (slice_index l.nodes k)
