-- The smaller nodes before each node, as a trail.
use Rattle.std.specs.Prelude.{ℕ, zero, suc, List, length, map, Option, Some, None, slice_index}
use Rattle.std.specs.List.{range_with_len}
use Rattle.path_trail.specs.Trail.{TrailEntry}

-- the node before a node; none before the first
abbrev pub before_of : List ℕ → ℕ → Option ℕ
before_of before zero = None
before_of before (suc n) = Some (slice_index before (suc n))

-- the entry of a node, with that of the node before it
abbrev pub entry_of : List ℕ → ℕ → TrailEntry
entry_of before n = record { node = n; earlier = before_of before n }

-- an entry for each node
abbrev pub entries_of : List ℕ → List TrailEntry
entries_of before = map (entry_of before) (range_with_len 0 (length before))
