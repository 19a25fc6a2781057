-- Paths of the whole graph for those of the runs.
use Rattle.std.specs.Prelude.{◌≡◌, ℕ, ◌<◌, List, ◌∷◌, length, map, Option, Some, None, unwrap_or}
use Rattle.transition_spec.specs.Path.{IsPath}
use Rattle.cache_spec.specs.Contents.{contents}
use Rattle.path_model.specs.declared.graph.Node.{Node}
use Rattle.path_model.specs.Graph.{graph_step, address_of}
use Rattle.line_blocks.specs.Runs.{Runs, IsHead, run_of, head_of}

-- each set keeps the same after these nodes as after these runs, whatever it held at first
abbrev pub KeepAlike : Runs → List ℕ → List ℕ → Type 0
KeepAlike r members others = (set : ℕ) (held : List ℕ)
    → contents r.shape set held (map (address_of r.nodes) members)
    ≡ contents r.shape set held (map (address_of r.small) others)

-- a path of the whole graph for one of the runs: it ends in the first node of the last run, and before that node each set
-- keeps the same as before that run
pub record IsExpanded (r : Runs) (path whole : List ℕ) : Type 0 where
  pub last : ℕ
  pub others : List ℕ
  pub earlier : List ℕ
  pub path_is : path ≡ last ∷ others
  pub whole_is : whole ≡ head_of r.runs last ∷ earlier
  pub inside : last < length r.runs
  pub is_path : IsPath (graph_step r.nodes) 0 whole
  pub alike : KeepAlike r earlier others

-- the path ends in this node
abbrev pub EndsIn : ℕ → List ℕ → Type 0
EndsIn n path = (earlier : List ℕ) × (path ≡ n ∷ earlier)

-- a path of the runs to the run of n, for one of the whole graph to n
pub record IsDown (r : Runs) (n : ℕ) (earlier other : List ℕ) : Type 0 where
  pub path : IsPath (graph_step r.small) 0 (run_of r.numbers n ∷ other)
  pub before : IsHead r.numbers r.runs n → KeepAlike r earlier other
  pub after : KeepAlike r (n ∷ earlier) (run_of r.numbers n ∷ other)

-- a path of the whole graph to n, with that of the runs
pub record IsUp (r : Runs) (n : ℕ) (earlier other : List ℕ) : Type 0 where
  pub path : IsPath (graph_step r.nodes) 0 (n ∷ earlier)
  pub down : IsDown r n earlier other

-- these members are such a path
abbrev pub IsWalk : Runs → ℕ → List ℕ → List ℕ → Type 0
IsWalk r n members other = (earlier : List ℕ) × (members ≡ n ∷ earlier) × IsUp r n earlier other

-- the first successor of a node, if it has one
abbrev pub next_in : Option Node → ℕ
next_in None = 0
next_in (Some node) = unwrap_or node.first 0
