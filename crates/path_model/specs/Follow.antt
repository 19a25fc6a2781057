-- Paths by their number of members and their choices.
use Rattle.std.specs.Prelude.{◌≡◌, ℕ, ◌==◌, if◌then◌else◌, List, length, Option, Some, None}
use Rattle.transition_spec.specs.Path.{IsPath, HasChoices}
use Rattle.path_model.specs.declared.graph.Node.{Node}
use Rattle.path_model.specs.Graph.{graph_step}

-- a path from node 0, its last member first, that has `steps` members and takes these choices
pub record IsFollowed (nodes : List Node) (steps : ℕ) (choices members : List ℕ) : Type 0 where
  pub path : IsPath (graph_step nodes) 0 members
  pub as_long : length members ≡ steps
  pub takes : HasChoices (graph_step nodes) members choices

-- the move by these two successors, where this is the next choice: where it leads, and how many choices it takes
abbrev pub next_by : Option ℕ → Option ℕ → Option ℕ → Option (ℕ × ℕ)
next_by None second choice = None
next_by (Some first) None choice = Some (first, 0)
next_by (Some first) (Some second) None = None
next_by (Some first) (Some second) (Some letter) =
    if letter == 110 then Some (first, 1) else (if letter == 116 then Some (second, 1) else None)

-- the move from this node
abbrev pub next_to : Option Node → Option ℕ → Option (ℕ × ℕ)
next_to None choice = None
next_to (Some node) choice = next_by node.first node.second choice
