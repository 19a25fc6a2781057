-- What is judged on a sparse graph, by the graph that it stands for.
use Rattle.std.specs.Prelude.{◌≡◌, List, reverse, Some, None}
use Rattle.transition_spec.specs.Path.{IsPath}
use Rattle.path_model.specs.declared.graph.Node.{Node}
use Rattle.path_model.specs.Graph.{graph_step}
use Rattle.sparse_graph.specs.Plan.{origin_of}
use Rattle.sparse_graph.specs.Sparse.{Sparse}
use Rattle.sparse_graph.specs.Expand.{IsExpanded}
use Rattle.node_verdicts.specs.Judged.{AreMatched}
use Rattle.node_verdicts.specs.declared.judged.Paths.{Paths}
use Rattle.node_verdicts.specs.declared.judged.Ends.{Ends}
use Rattle.node_verdicts.specs.declared.judged.Ends.TheVariants.{Hits, Misses, Both}
use Rattle.node_verdicts.specs.declared.judged.Judged.{Judged}

-- what is kept are paths of the graph
abbrev pub HavePaths : List Node → Ends → Type 0
HavePaths nodes Hits = Unit {0}
HavePaths nodes Misses = Unit {0}
HavePaths nodes (Both None) = Unit {0}
HavePaths nodes (Both (Some paths)) = IsPath (graph_step nodes) 0 (reverse paths.hit.items)
    × IsPath (graph_step nodes) 0 (reverse paths.miss.items)

-- the same ends, with paths that stand for these
abbrev pub IsLiftedEnds : Sparse → Ends → Ends → Type 0
IsLiftedEnds sparse Hits lifted = lifted ≡ Hits
IsLiftedEnds sparse Misses lifted = lifted ≡ Misses
IsLiftedEnds sparse (Both None) lifted = lifted ≡ Both None
IsLiftedEnds sparse (Both (Some paths)) lifted = (whole : Paths) × (lifted ≡ Both (Some whole))
    × IsExpanded sparse (reverse paths.hit.items) (reverse whole.hit.items)
    × IsExpanded sparse (reverse paths.miss.items) (reverse whole.miss.items)

-- the same of the node that this one is in the whole graph
pub record IsLifted (sparse : Sparse) (one lifted : Judged) : Type 0 where
  pub node : lifted.node ≡ origin_of sparse.kept one.node
  pub ends : IsLiftedEnds sparse one.ends lifted.ends

-- each judgement is there on the whole graph, and there is no other
abbrev pub AreLifted : Sparse → List Judged → List Judged → Type 0
AreLifted sparse = AreMatched (IsLifted sparse)
