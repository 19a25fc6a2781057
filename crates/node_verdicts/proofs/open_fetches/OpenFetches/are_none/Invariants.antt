use Rattle.std.specs.Prelude.{◌≡◌, ◌<◌, ℕ, []}
use Rattle.node_verdicts.specs.Open.{nodes_of}
use Rattle.node_verdicts.proofs.open_fetches.OpenFetches.are_none.Given as goal

-- the first lists are empty
abbrev pub invariant-loop-nodes : goal.invariant-loop-nodes
invariant-loop-nodes l = (k : ℕ) → k < l.nodes-index → nodes_of l.self k ≡ []
