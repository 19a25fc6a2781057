use Rattle.std.proofs.Common.{ℕ, ◌<◌, ◌≤◌}
use Rattle.cache_spec.specs.Geometry.{block_of, set_of}
use Rattle.path_model.specs.Graph.{address_of}
use Rattle.sparse_graph.specs.Plan.{IsKept}
use Rattle.sparse_graph.proofs.sets.keeps_sets.Given as goal

abbrev pub invariant-loop-number : goal.invariant-loop-number
invariant-loop-number l = (n : ℕ) → n < l.number
    → l.low ≤ set_of l.geometry (block_of l.geometry (address_of l.sparse.nodes n))
    → set_of l.geometry (block_of l.geometry (address_of l.sparse.nodes n)) < l.high
    → IsKept l.sparse.kept l.sparse.leads n
