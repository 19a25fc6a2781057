-- Paths of the whole graph for those of a sparse graph.
use Rattle.std.specs.Prelude.{◌≡◌, ◌==◌, ℕ, if◌then◌else◌, nat_lt, Bool, List, ◌∷◌, Option, Some, None, slice_get, unwrap_or}
use Rattle.std.specs.List.{filter_map}
use Rattle.transition_spec.specs.Path.{IsPath}
use Rattle.path_model.specs.Graph.{graph_step}
use Rattle.sparse_graph.specs.Plan.{lead_of, rank_of}
use Rattle.sparse_graph.specs.Sparse.{Sparse, FetchAlike}

-- members of the whole graph fetch what those of the sparse graph do, for whatever only kept nodes fetch
abbrev pub AreAlike : Sparse → List ℕ → List ℕ → Type 0
AreAlike sparse members others = (fetch small_fetch : ℕ → Option ℕ) → FetchAlike sparse fetch small_fetch
    → filter_map fetch members ≡ filter_map small_fetch others

-- the same of two lists of members of the whole graph
abbrev pub AddNothing : Sparse → List ℕ → List ℕ → Type 0
AddNothing sparse members others = (fetch small_fetch : ℕ → Option ℕ) → FetchAlike sparse fetch small_fetch
    → filter_map fetch members ≡ filter_map fetch others

-- a path of the whole graph for one of the sparse graph: both end in the same node, and fetch the same before it
pub record IsExpanded (sparse : Sparse) (path whole : List ℕ) : Type 0 where
  pub last : ℕ
  pub others : List ℕ
  pub node : ℕ
  pub earlier : List ℕ
  pub path_is : path ≡ last ∷ others
  pub whole_is : whole ≡ node ∷ earlier
  pub ends : slice_get sparse.kept last ≡ Some node
  pub is_path : IsPath (graph_step sparse.nodes) 0 (node ∷ earlier)
  pub alike : AreAlike sparse earlier others

-- the one successor, or of two the first if it passes, or else the second
abbrev pub choose : (ℕ → Bool) → Option ℕ → Option ℕ → ℕ
choose passes None second = unwrap_or second 0
choose passes (Some first) None = first
choose passes (Some first) (Some second) = if passes first then first else second

-- the successor that leads to this place
abbrev pub toward_by : List ℕ → ℕ → Option ℕ → Option ℕ → ℕ
toward_by leads to first second = choose (λ m. lead_of leads m == to) first second

-- the successor that is nearer than the node
abbrev pub nearer_by : List ℕ → ℕ → Option ℕ → Option ℕ → ℕ
nearer_by ranks node first second = choose (λ m. nat_lt (rank_of ranks m) (rank_of ranks node)) first second

-- from these members a path has gone on over dropped nodes to the kept node at this place
pub record HasArrived (sparse : Sparse) (to : ℕ) (before after : List ℕ) : Type 0 where
  pub node : ℕ
  pub earlier : List ℕ
  pub after_is : after ≡ node ∷ earlier
  pub ends : slice_get sparse.kept to ≡ Some node
  pub is_path : IsPath (graph_step sparse.nodes) 0 (node ∷ earlier)
  pub nothing : AddNothing sparse earlier before

-- it is on its way there, after these members
pub record IsOnWay (sparse : Sparse) (to : ℕ) (before : List ℕ) (at : ℕ) (members : List ℕ) : Type 0 where
  pub is_path : IsPath (graph_step sparse.nodes) 0 (at ∷ members)
  pub lead : lead_of sparse.leads at ≡ to
  pub nothing : AddNothing sparse members before
