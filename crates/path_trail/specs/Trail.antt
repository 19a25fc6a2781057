-- Trails: entries by number, each at a node of a graph and with the entry before it, if there is one.
use Rattle.std.specs.Prelude.{◌≡◌, ℕ, ◌<◌, List, [], ◌∷◌, length, Option, Some, None, slice_get}
use Rattle.transition_spec.specs.Path.{IsSuccessor}
use Rattle.path_model.specs.declared.graph.Node.{Node}
use Rattle.path_model.specs.Graph.{graph_step}

-- an entry
pub record TrailEntry : Type 0 where
  pub node : ℕ
  pub earlier : Option ℕ

-- the node of an entry, or 0 where there is none
abbrev pub node_of : Option TrailEntry → ℕ
node_of None = 0
node_of (Some entry) = entry.node

-- the entry before an entry
abbrev pub earlier_of : Option TrailEntry → Option ℕ
earlier_of None = None
earlier_of (Some entry) = entry.earlier

-- the node of the entry with this number
abbrev pub node_at : List TrailEntry → ℕ → ℕ
node_at entries number = node_of (slice_get entries number)

-- the entry before the one with this number
abbrev pub earlier_at : List TrailEntry → ℕ → Option ℕ
earlier_at entries number = earlier_of (slice_get entries number)

-- the nodes of an entry, of the entry before it, and so on
abbrev pub IsChain : List TrailEntry → Option ℕ → List ℕ → Type 0
IsChain entries None [] = Unit {0}
IsChain entries None (node ∷ earlier) = ⊥
IsChain entries (Some number) [] = ⊥
IsChain entries (Some number) (node ∷ earlier) =
    (node ≡ node_at entries number) × IsChain entries (earlier_at entries number) earlier

-- an entry after this one may be at the node: the one before it has a smaller number and leads to the node
abbrev pub LeadsOn : List Node → List TrailEntry → ℕ → Option ℕ → ℕ → Type 0
LeadsOn nodes entries number None node = node ≡ 0
LeadsOn nodes entries number (Some earlier) node =
    (earlier < number) × IsSuccessor (graph_step nodes) (node_at entries earlier) node

-- each entry follows the one before it along an edge, and one without an entry before it is at node 0
abbrev pub IsTrail : List Node → List TrailEntry → Type 0
IsTrail nodes entries = (number : ℕ) → number < length entries
    → LeadsOn nodes entries number (earlier_at entries number) (node_at entries number)
