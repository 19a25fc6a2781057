-- What ages say of the places of blocks on paths.
use Rattle.std.specs.Prelude.{◌≡◌, ℕ, ◌<◌, Bool, List, ◌∷◌, length, map}
use Rattle.cache_spec.specs.declared.start.Start.{Start}
use Rattle.cache_spec.specs.Contents.{contents}
use Rattle.cache_spec.specs.Start.{IsStartList, CanEnd}
use Rattle.transition_spec.specs.Path.{IsPath}
use Rattle.path_model.specs.Graph.{graph_step, address_of}
use Rattle.focus_spec.specs.Younger.{named}
use Rattle.set_view.specs.View.{View}
use Rattle.age_spec.specs.declared.kind.Kind.{Kind}
use Rattle.age_spec.specs.Place.{place}
use Rattle.age_spec.specs.Ages.{IsBelow, age_of}

-- what the set keeps after these nodes, the last of them first, where it held these blocks before the first
abbrev pub kept_after : View → List ℕ → List ℕ → List ℕ
kept_after view held earlier = contents view.geometry view.set held (map (address_of view.nodes) earlier)

-- the place of a local block there
abbrev pub place_after : View → List ℕ → List ℕ → ℕ → ℕ
place_after view held earlier local = place view.geometry.ways (kept_after view held earlier) (named view.blocks local)

-- on each path that ends in a node, from each list that the set may start with, ages of this kind bound the places of
-- the local blocks before that node
abbrev pub BoundPlaces : View → Kind → Start → List (List ℕ) → Type 0
BoundPlaces view kind start ages = (n local : ℕ) (held earlier : List ℕ) → local < length view.blocks
    → IsStartList view.geometry start view.set held → IsPath (graph_step view.nodes) 0 (n ∷ earlier)
    → IsBelow kind (place_after view held earlier local) (age_of ages n local)

-- no path that ends in the node can end so
abbrev pub NoneEnds : View → Start → ℕ → Bool → Type 0
NoneEnds view start n hits = (earlier : List ℕ) → IsPath (graph_step view.nodes) 0 (n ∷ earlier)
    → CanEnd view.geometry start (map (address_of view.nodes) (n ∷ earlier)) hits → ⊥

-- the members, the last of them first, are a path that ends in the node and can hit there, or miss where `hits` is false
pub record IsWitness (view : View) (start : Start) (n : ℕ) (hits : Bool) (members : List ℕ) : Type 0 where
  pub earlier : List ℕ
  pub ends : members ≡ n ∷ earlier
  pub is_path : IsPath (graph_step view.nodes) 0 (n ∷ earlier)
  pub fate : CanEnd view.geometry start (map (address_of view.nodes) (n ∷ earlier)) hits
