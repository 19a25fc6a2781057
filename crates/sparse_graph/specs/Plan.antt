-- Plans of sparse graphs: which nodes of a flow graph are kept, and which kept node each node leads to. Whatever path
-- goes on from a node comes to that kept node before any other.
use Rattle.std.specs.Prelude.{◌≡◌, ◌⊎◌, ℕ, ◌<◌, List, length, Option, Some, slice_get, slice_index_or}
use Rattle.std.specs.List.Sorted.{IsStrictlyIncreasing}
use Rattle.transition_spec.specs.Path.{IsSuccessor}
use Rattle.path_model.specs.declared.graph.Node.{Node}
use Rattle.path_model.specs.Graph.{graph_step}

-- the place, among the kept nodes, of the one that a node leads to
abbrev pub lead_of : List ℕ → ℕ → ℕ
lead_of leads n = slice_index_or leads n 0

-- how far from it the node is at most
abbrev pub rank_of : List ℕ → ℕ → ℕ
rank_of ranks n = slice_index_or ranks n 0

-- the number of the kept node at a place
abbrev pub origin_of : List ℕ → ℕ → ℕ
origin_of kept place = slice_index_or kept place 0

-- a node is kept: it leads to itself
abbrev pub IsKept : List ℕ → List ℕ → ℕ → Type 0
IsKept kept leads n = slice_get kept (lead_of leads n) ≡ Some n

-- all successors of a node lead to where it does, and one of them is nearer
pub record PassesOn (nodes : List Node) (leads ranks : List ℕ) (n : ℕ) : Type 0 where
  pub alike : (m : ℕ) → IsSuccessor (graph_step nodes) n m → lead_of leads m ≡ lead_of leads n
  pub nearer : (m : ℕ) × IsSuccessor (graph_step nodes) n m × (rank_of ranks m < rank_of ranks n)

-- the numbers of the kept nodes rise from 0 on, each of them leads to itself, and every other node passes on
pub record IsPlan (nodes : List Node) (kept leads ranks : List ℕ) : Type 0 where
  pub rising : IsStrictlyIncreasing kept
  pub first : slice_get kept 0 ≡ Some 0
  pub one_each : length leads ≡ length nodes
  pub inside : (n : ℕ) → n < length nodes → lead_of leads n < length kept
  pub own : (p n : ℕ) → slice_get kept p ≡ Some n → (n < length nodes) × (lead_of leads n ≡ p)
  pub dropped : (n : ℕ) → n < length nodes → (IsKept kept leads n → ⊥) → PassesOn nodes leads ranks n

-- a successor, if there is one, leads to this place
abbrev pub LeadsTo : List ℕ → Option ℕ → ℕ → Type 0
LeadsTo leads to place = (m : ℕ) → to ≡ Some m → lead_of leads m ≡ place

-- there is a successor, and its rank is smaller
abbrev pub IsNearer : List ℕ → Option ℕ → ℕ → Type 0
IsNearer ranks to rank = (m : ℕ) × (to ≡ Some m) × (rank_of ranks m < rank)

-- a node leads to a kept one, and is it or passes on
abbrev pub IsLed : List Node → List ℕ → List ℕ → List ℕ → ℕ → Type 0
IsLed nodes kept leads ranks n =
    (lead_of leads n < length kept) × (IsKept kept leads n ⊎ PassesOn nodes leads ranks n)

-- what is kept at the places below the bound are nodes, which lead to themselves
abbrev pub AreOwn : ℕ → List ℕ → List ℕ → ℕ → Type 0
AreOwn count kept leads bound =
    (p : ℕ) → p < bound → (origin_of kept p < count) × (lead_of leads (origin_of kept p) ≡ p)
