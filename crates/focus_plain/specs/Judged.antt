-- What the paths that end in a node can do.
use Rattle.std.specs.Prelude.{◌≡◌, ◌↔◌, ℕ, Bool, true, false, not, List, ◌∷◌, Option, Some, None}
use Rattle.std.specs.List.{Contains}
use Rattle.std.specs.List.Sorted.{IsStrictlyIncreasing}
use Rattle.cache_spec.specs.declared.start.Start.{Start}
use Rattle.cache_spec.specs.Geometry.{Geometry}
use Rattle.transition_spec.specs.declared.way.Way.{Way}
use Rattle.transition_spec.specs.Path.{IsPath}
use Rattle.path_model.specs.declared.graph.Node.{Node}
use Rattle.path_model.specs.Graph.{graph_step}
use Rattle.focus_spec.specs.Younger.{fetch_at}
use Rattle.focus_spec.specs.Fate.{PathCanEnd, AllEnd, NamesEnd}
use Rattle.set_view.specs.View.{View, IsView}
use Rattle.focus_plain.specs.declared.ends.Found.{Found}
use Rattle.focus_plain.specs.Ends.{IsFound}
use Rattle.focus_plain.specs.declared.judging.Classification.{Classification}
use Rattle.focus_plain.specs.declared.judging.Classification.TheVariants.{Hits, Misses, Both}

-- a block of a set, over all paths of a graph, from all that the cache may start with
pub record Judged : Type 0 where
  pub view : View
  pub start : Start
  pub block : ℕ

-- the search that has judged it
pub record IsJudgedBy (view : View) (found : Found) : Type 0 where
  pub is_view : IsView view
  pub is_found : IsFound view found

-- no path that ends in the node can miss; none can hit; or neither of these
abbrev pub IsClassificationOf : List Node → Geometry → Start → ℕ → Classification → Type 0
IsClassificationOf nodes g start n Hits = AllEnd nodes g start n true
IsClassificationOf nodes g start n Misses = AllEnd nodes g start n false
IsClassificationOf nodes g start n Both = (AllEnd nodes g start n true → ⊥) × (AllEnd nodes g start n false → ⊥)

-- the same where the block is judged
abbrev pub IsClassification : Judged → ℕ → Classification → Type 0
IsClassification judged = IsClassificationOf judged.view.nodes judged.view.geometry judged.start

-- the members, the last of them first, are a path that ends in the node and can hit there, or miss where `hits` is false
pub record IsPathTo (nodes : List Node) (g : Geometry) (start : Start) (n : ℕ) (hits : Bool) (members : List ℕ) : Type 0 where
  pub earlier : List ℕ
  pub ends : members ≡ n ∷ earlier
  pub is_path : IsPath (graph_step nodes) 0 (n ∷ earlier)
  pub fate : PathCanEnd nodes g start (n ∷ earlier) hits

-- the nodes are exactly those that fetch the block, rising
pub record AreFetchers (fetches : List (Option ℕ)) (block : ℕ) (nodes : List ℕ) : Type 0 where
  pub rising : IsStrictlyIncreasing nodes
  pub members : (n : ℕ) → Contains nodes n ↔ (fetch_at fetches n ≡ Some block)

-- a way of a path to the node that can hit, or that can miss, exactly where some path can
abbrev pub IsEnd : View → Start → ℕ → Bool → Option Way → Type 0
IsEnd view start n hits None = AllEnd view.nodes view.geometry start n (not hits)
IsEnd view start n hits (Some way) = NamesEnd view.nodes view.geometry start n way hits
