-- Recorded changes read as a trail: an entry for each change, after the last entry of the node that it comes from.
use Rattle.std.specs.Prelude.{ℕ, List, [], ◌∷◌, ◌++◌, length, Option, Some, None, slice_index_or, slice_set, replicate}
use Rattle.lattice_fix.specs.declared.change.Change.{Change}
use Rattle.path_trail.specs.Trail.{TrailEntry}

-- entries, and for each node the number of its last one
pub record Retraced : Type 0 where
  pub entries : List TrailEntry
  pub last : List (Option ℕ)

-- the number of the last entry of a node
abbrev pub last_at : List (Option ℕ) → ℕ → Option ℕ
last_at last n = slice_index_or last n None

-- the entry before that of a change: the last one of the node from which the change comes
abbrev pub entry_before : List (Option ℕ) → Option ℕ → Option ℕ
entry_before last None = None
entry_before last (Some from) = last_at last from

-- the entry of a change
abbrev pub entry_of : List (Option ℕ) → Change → TrailEntry
entry_of last change = record { node = change.node; earlier = entry_before last change.from }

-- with one change more
abbrev pub with_change : Retraced → Change → Retraced
with_change t change = record {
  entries = t.entries ++ entry_of t.last change ∷ [];
  last = slice_set t.last change.node (Some (length t.entries));
}

-- with all of these changes, the first of them first
abbrev pub with_changes : Retraced → List Change → Retraced
with_changes t [] = t
with_changes t (change ∷ changes) = with_changes (with_change t change) changes

-- before the first change
abbrev pub no_entries : ℕ → Retraced
no_entries count = record { entries = []; last = replicate count None }
