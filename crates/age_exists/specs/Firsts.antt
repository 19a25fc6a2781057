-- The first paths to the nodes of a graph: a trail with one entry for each node, after that of a smaller node.
use Rattle.std.specs.Prelude.{◌≡◌, ◌↔◌, ℕ, ◌<◌, List, length, Some}
use Rattle.std.specs.List.{Contains}
use Rattle.path_model.specs.declared.graph.Node.{Node}
use Rattle.path_trail.specs.Trail.{TrailEntry, node_at, IsTrail}
use Rattle.focus_spec.specs.Younger.{fetch_at}
use Rattle.set_view.specs.View.{View}

-- the entry of each node has its number, and the entries are a trail
pub record AreFirsts (nodes : List Node) (firsts : List TrailEntry) : Type 0 where
  pub one_each : length firsts ≡ length nodes
  pub own : (n : ℕ) → n < length nodes → node_at firsts n ≡ n
  pub trail : IsTrail nodes firsts

-- these are the nodes that fetch a local block
abbrev pub AreFetchers : View → ℕ → List ℕ → Type 0
AreFetchers view block fetchers = (n : ℕ) → Contains fetchers n ↔ (fetch_at view.fetches n ≡ Some block)
