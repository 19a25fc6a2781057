-- What is judged of the nodes of a graph.
use Rattle.std.specs.Prelude.{◌≡◌, ℕ, ◌<◌, ◌≤◌, Bool, true, false, List, [], ◌∷◌, ◌++◌, length, reverse, Some, None}
use Rattle.std.specs.List.{Contains}
use Rattle.cache_spec.specs.declared.start.Start.{Start}
use Rattle.cache_spec.specs.Geometry.{Geometry, block_of, set_of}
use Rattle.path_model.specs.declared.graph.Node.{Node}
use Rattle.path_model.specs.Graph.{address_of}
use Rattle.focus_spec.specs.Fate.{AllEnd}
use Rattle.focus_plain.specs.Judged.{IsPathTo}
use Rattle.node_spec.specs.declared.verdict.Kept.{Kept}
use Rattle.node_spec.specs.declared.verdict.Kept.TheVariants.{EachNode, EachAddress}
use Rattle.node_verdicts.specs.declared.judged.Paths.{Paths}
use Rattle.node_verdicts.specs.declared.judged.Ends.{Ends}
use Rattle.node_verdicts.specs.declared.judged.Ends.TheVariants.{Hits, Misses, Both}
use Rattle.node_verdicts.specs.declared.judged.Judged.{Judged}

-- the block that a node fetches
abbrev pub block_at : List Node → Geometry → ℕ → ℕ
block_at nodes g n = block_of g (address_of nodes n)

-- the set that this block lies in
abbrev pub set_at : List Node → Geometry → ℕ → ℕ
set_at nodes g n = set_of g (block_at nodes g n)

-- a node fetches one of these sets: `low` and those above it, below `high`
pub record IsFetcher (nodes : List Node) (g : Geometry) (low high n : ℕ) : Type 0 where
  pub inside : n < length nodes
  pub above : low ≤ set_at nodes g n
  pub below : set_at nodes g n < high

-- a node fetches one of these blocks
pub record IsFetcherOf (nodes : List Node) (g : Geometry) (Among : ℕ → Type 0) (n : ℕ) : Type 0 where
  pub inside : n < length nodes
  pub among : Among (block_at nodes g n)

-- what is said of the paths that end in the node is so, and the paths that are kept are such paths
abbrev pub IsEnds : List Node → Geometry → Start → ℕ → Ends → Type 0
IsEnds nodes g start n Hits = AllEnd nodes g start n true
IsEnds nodes g start n Misses = AllEnd nodes g start n false
IsEnds nodes g start n (Both None) = (AllEnd nodes g start n true → ⊥) × (AllEnd nodes g start n false → ⊥)
IsEnds nodes g start n (Both (Some paths)) = IsPathTo nodes g start n true (reverse paths.hit.items)
    × IsPathTo nodes g start n false (reverse paths.miss.items)

-- paths are kept
abbrev pub HasPaths : Ends → Type 0
HasPaths ends = (paths : Paths) × (ends ≡ Both (Some paths))

-- the addresses of nodes whose paths are kept, with that of one more
abbrev pub addresses_with : Ends → ℕ → List ℕ → List ℕ
addresses_with Hits at addresses = addresses
addresses_with Misses at addresses = addresses
addresses_with (Both None) at addresses = addresses
addresses_with (Both (Some paths)) at addresses = addresses ++ at ∷ []

-- no paths are spared where they are wanted
abbrev pub IsSpared : Bool → Ends → Type 0
IsSpared wanted ends = ends ≡ Both None → wanted ≡ false

-- the node is judged, always with its paths
pub record HavePathsAt (judged : List Judged) (m : ℕ) : Type 0 where
  pub some : (one : Judged) × Contains judged one × (one.node ≡ m)
  pub each : (one : Judged) → Contains judged one → one.node ≡ m → HasPaths one.ends

-- the paths of one node may serve another
abbrev pub Serves : List Node → Kept → ℕ → ℕ → Type 0
Serves nodes EachNode n m = m ≡ n
Serves nodes EachAddress n m = address_of nodes m ≡ address_of nodes n

-- exactly these nodes are judged, all of them right, and where paths are spared those of another node serve
pub record AreJudged (nodes : List Node) (g : Geometry) (start : Start) (kept : Kept) (Within : ℕ → Type 0)
    (judged : List Judged) : Type 0 where
  pub within : (one : Judged) → Contains judged one → Within one.node
  pub right : (one : Judged) → Contains judged one → IsEnds nodes g start one.node one.ends
  pub all : (n : ℕ) → Within n → (one : Judged) × Contains judged one × (one.node ≡ n)
  pub served : (one : Judged) → Contains judged one → one.ends ≡ Both None
      → (m : ℕ) × Serves nodes kept one.node m × HavePathsAt judged m

-- each judgement has one that goes with it, and there is no other
pub record AreMatched {X : Type 0} (Goes : Judged → X → Type 0) (judged : List Judged) (others : List X) : Type 0 where
  pub each : (one : Judged) → Contains judged one → (other : X) × Contains others other × Goes one other
  pub none_else : (other : X) → Contains others other → (one : Judged) × Contains judged one × Goes one other
