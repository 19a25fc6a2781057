-- How the first paths to the nodes of a graph are found: by the edges to greater nodes, from one node after another.
use Rattle.std.specs.Prelude.{◌≡◌, ◌⊎◌, ℕ, ◌<◌, List, length, Option, Some, None, IsSome}
use Rattle.transition_spec.specs.Path.{IsSuccessor}
use Rattle.path_model.specs.declared.graph.Node.{Node}
use Rattle.path_model.specs.Graph.{graph_step}
use Rattle.path_trail.specs.Trail.{TrailEntry, node_at, earlier_at}

-- an entry for each of this many nodes, after no other
pub record AreApart (count : ℕ) (entries : List TrailEntry) : Type 0 where
  pub one_each : length entries ≡ count
  pub own : (n : ℕ) → n < count → node_at entries n ≡ n
  pub none : (n : ℕ) → earlier_at entries n ≡ None

-- an entry for each node, after that of a smaller node that it follows, wherever it follows one of the first nodes
pub record AreFound (nodes : List Node) (count : ℕ) (entries : List TrailEntry) : Type 0 where
  pub one_each : length entries ≡ length nodes
  pub own : (n : ℕ) → n < length nodes → node_at entries n ≡ n
  pub sound : (n m : ℕ) → earlier_at entries m ≡ Some n → (n < m) × IsSuccessor (graph_step nodes) n m
  pub complete : (n m : ℕ) → n < count → n < m → m < length nodes → IsSuccessor (graph_step nodes) n m
      → IsSome (earlier_at entries m)

-- a greater node to which the edge leads has an entry before its own then; one that it had stays, and no other comes
pub record NotesFirst (before after : List TrailEntry) (from : ℕ) (to : Option ℕ) : Type 0 where
  pub as_long : length after ≡ length before
  pub own : (n : ℕ) → node_at after n ≡ node_at before n
  pub kept : (n m : ℕ) → earlier_at before m ≡ Some n → earlier_at after m ≡ Some n
  pub noted : (m : ℕ) → to ≡ Some m → from < m → m < length before → IsSome (earlier_at after m)
  pub no_other : (n m : ℕ) → earlier_at after m ≡ Some n
      → (earlier_at before m ≡ Some n) ⊎ ((n ≡ from) × (to ≡ Some m) × (from < m))
