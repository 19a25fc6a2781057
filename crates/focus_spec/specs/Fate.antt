-- What the paths of a graph that end in a node can do there, over all lists that a set may start with: hit, or miss.
use Rattle.std.specs.Prelude.{ℕ, Bool, not, List, ◌∷◌, map}
use Rattle.cache_spec.specs.Geometry.{Geometry}
use Rattle.cache_spec.specs.declared.start.Start.{Start}
use Rattle.cache_spec.specs.Start.{CanEnd}
use Rattle.transition_spec.specs.declared.way.Way.{Way}
use Rattle.transition_spec.specs.Path.{IsPath}
use Rattle.transition_spec.specs.Named.{Names}
use Rattle.path_model.specs.declared.graph.Node.{Node}
use Rattle.path_model.specs.Graph.{graph_step, address_of}

-- a path of the graph can hit, or can miss where `hits` is false
abbrev pub PathCanEnd : List Node → Geometry → Start → List ℕ → Bool → Type 0
PathCanEnd nodes g start path hits = CanEnd g start (map (address_of nodes) path) hits

-- no path that ends in the node can miss, or none can hit
abbrev pub AllEnd : List Node → Geometry → Start → ℕ → Bool → Type 0
AllEnd nodes g start n hits = (earlier : List ℕ) → IsPath (graph_step nodes) 0 (n ∷ earlier)
    → PathCanEnd nodes g start (n ∷ earlier) (not hits) → ⊥

-- the way names a path that ends in the node, and that path can hit, or can miss
pub record NamesEnd (nodes : List Node) (g : Geometry) (start : Start) (n : ℕ) (way : Way) (hits : Bool) : Type 0 where
  pub earlier : List ℕ
  pub is_path : IsPath (graph_step nodes) 0 (n ∷ earlier)
  pub names : Names (graph_step nodes) way (n ∷ earlier)
  pub fate : PathCanEnd nodes g start (n ∷ earlier) hits
