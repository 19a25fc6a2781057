-- The least warm sets and the most younger sets of a block, over all paths of a graph that end in a node. Touzeau,
-- Maïza, Monniaux and Reineke 2019. Each node fetches a block by its number, or None where it fetches another set's.
use Rattle.std.specs.Prelude.{◌≡◌, ◌↔◌, ℕ, ◌<◌, IsFalse, List, ◌∷◌, length, map, Option, Some, None}
use Rattle.std.specs.List.{Contains}
use Rattle.transition_spec.specs.Path.{IsPath}
use Rattle.path_model.specs.declared.graph.Node.{Node}
use Rattle.path_model.specs.Graph.{graph_step}
use Rattle.set_list.specs.SetList.{IsSubset}
use Rattle.cache_spec.specs.declared.start.Start.{Start}
use Rattle.focus_spec.specs.Younger.{younger, warm, is_small, fetch_at}

-- the younger set of a block after these members of a path, the last of them first
abbrev pub younger_after : List (Option ℕ) → ℕ → List ℕ → Option (List ℕ)
younger_after fetches block members = younger block (map (fetch_at fetches) members)

-- its warm set after them
abbrev pub warm_after : List (Option ℕ) → Start → ℕ → List ℕ → Option (List ℕ)
warm_after fetches start block members = warm start block (map (fetch_at fetches) members)

-- some path that ends in the node has this younger set of the block before its last member
abbrev pub Leaves : List Node → List (Option ℕ) → ℕ → ℕ → Option (List ℕ) → Type 0
Leaves nodes fetches block n younger =
    (earlier : List ℕ) × IsPath (graph_step nodes) 0 (n ∷ earlier) × (younger_after fetches block earlier ≡ younger)

-- some path that ends in the node has this warm set of the block before its last member
abbrev pub LeavesWarm : List Node → List (Option ℕ) → Start → ℕ → ℕ → Option (List ℕ) → Type 0
LeavesWarm nodes fetches start block n warm =
    (earlier : List ℕ) × IsPath (graph_step nodes) 0 (n ∷ earlier) × (warm_after fetches start block earlier ≡ warm)

-- some path that ends in the node has a warm set of fewer than `ways` blocks
abbrev pub MayBeSmall : List Node → List (Option ℕ) → ℕ → Start → ℕ → ℕ → Type 0
MayBeSmall nodes fetches ways start block n =
    (set : List ℕ) × LeavesWarm nodes fetches start block n (Some set) × (length set < ways)

-- some path that ends in the node has no younger set, or one of at least `ways` blocks
abbrev pub MayBeLarge : List Node → List (Option ℕ) → ℕ → ℕ → ℕ → Type 0
MayBeLarge nodes fetches ways block n =
    (younger : Option (List ℕ)) × Leaves nodes fetches block n younger × IsFalse (is_small ways younger)

-- a least warm set: it has fewer than `ways` blocks, and no path leaves another one that is included in it
pub record IsLeastWarm (nodes : List Node) (fetches : List (Option ℕ)) (ways : ℕ) (start : Start) (block n : ℕ)
    (set : List ℕ) : Type 0 where
  pub left : LeavesWarm nodes fetches start block n (Some set)
  pub small : length set < ways
  pub least : (other : List ℕ) → LeavesWarm nodes fetches start block n (Some other) → IsSubset other set
      → other ≡ set

-- a most younger set: no path leaves another one that includes it
pub record IsMostYounger (nodes : List Node) (fetches : List (Option ℕ)) (block n : ℕ) (set : List ℕ) : Type 0 where
  pub left : Leaves nodes fetches block n (Some set)
  pub most : (other : List ℕ) → Leaves nodes fetches block n (Some other) → IsSubset set other → other ≡ set

-- the sets are exactly the least warm sets
abbrev pub AreLeast : List Node → List (Option ℕ) → ℕ → Start → ℕ → ℕ → List (List ℕ) → Type 0
AreLeast nodes fetches ways start block n sets =
    (s : List ℕ) → Contains sets s ↔ IsLeastWarm nodes fetches ways start block n s

-- the sets are exactly the most younger sets; they are absent exactly where one may be large, or may not be there
abbrev pub AreMost : List Node → List (Option ℕ) → ℕ → ℕ → ℕ → Option (List (List ℕ)) → Type 0
AreMost nodes fetches ways block n None = MayBeLarge nodes fetches ways block n
AreMost nodes fetches ways block n (Some sets) =
    (MayBeLarge nodes fetches ways block n → ⊥) × ((s : List ℕ) → Contains sets s ↔ IsMostYounger nodes fetches block n
    s)
