-- The ways of entries.
use Rattle.std.specs.Prelude.{ℕ, List, Some}
use Rattle.transition_spec.specs.declared.way.Way.{Way}
use Rattle.transition_spec.specs.Path.{IsPath}
use Rattle.transition_spec.specs.Named.{Names}
use Rattle.path_model.specs.declared.graph.Node.{Node}
use Rattle.path_model.specs.Graph.{graph_step}
use Rattle.path_trail.specs.Trail.{TrailEntry, IsChain}

-- the way names the path that the chain of the entry is
pub record IsWayOf (nodes : List Node) (trail : List TrailEntry) (entry : ℕ) (way : Way) : Type 0 where
  pub members : List ℕ
  pub chain : IsChain trail (Some entry) members
  pub path : IsPath (graph_step nodes) 0 members
  pub named : Names (graph_step nodes) way members
