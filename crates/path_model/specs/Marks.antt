-- What the marks of a graph's nodes say.
use Rattle.std.specs.Prelude.{◌≡◌, ℕ, ◌<◌, true, false, Bool, List, length, Option, Some, slice_index_or}
use Rattle.transition_spec.specs.Path.{IsSuccessor}
use Rattle.path_model.specs.declared.graph.Node.{Node}
use Rattle.path_model.specs.Graph.{graph_step}

-- the mark of a number is set; past the marks there is none
abbrev pub IsMarked : List Bool → ℕ → Type 0
IsMarked marks m = slice_index_or marks m false ≡ true

-- a marked number is a greater successor of some node, and each greater successor of the first count nodes is marked
pub record AreMarked (nodes : List Node) (count : ℕ) (marks : List Bool) : Type 0 where
  pub sound : (m : ℕ) → IsMarked marks m → (n : ℕ) × (n < m) × IsSuccessor (graph_step nodes) n m
  pub complete : (n m : ℕ) → n < count → n < m → m < length marks → IsSuccessor (graph_step nodes) n m
      → IsMarked marks m

-- the marks that were set stay so, and the greater successor gets its own; no other is set
pub record MarksOne (before after : List Bool) (from : ℕ) (to : Option ℕ) : Type 0 where
  pub as_long : length after ≡ length before
  pub kept : (m : ℕ) → IsMarked before m → IsMarked after m
  pub set : (m : ℕ) → to ≡ Some m → from < m → m < length before → IsMarked after m
  pub no_other : (m : ℕ) → IsMarked after m → (IsMarked before m → ⊥) → (to ≡ Some m) × (from < m)
