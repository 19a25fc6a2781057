-- The entries at which the search found a hit or a miss, by their nodes.
use Rattle.std.specs.Prelude.{◌≡◌, ◌⊎◌, ℕ, ◌<◌, Bool, true, false, List, length, Option, Some}
use Rattle.std.specs.Option.{is_some}
use Rattle.std.specs.Prelude.{slice_get}
use Rattle.path_trail.specs.Trail.{node_at}
use Rattle.set_view.specs.View.{View}
use Rattle.focus_plain.specs.declared.search.Entry.{Entry}
use Rattle.focus_plain.specs.declared.ends.Found.{Found}
use Rattle.focus_plain.specs.Entries.{trail_of, seen_of, latest_at, index_of, IsSpread}
use Rattle.focus_plain.specs.Search.{IsSearch}

-- of the first entries, those with a small younger set, or those with none, by their nodes: each that is listed is one,
-- and one is listed for each node that has one
pub record AreEnds (entries : List Entry) (count : ℕ) (small : Bool) (ends : List (Option ℕ)) : Type 0 where
  pub sound : (n number : ℕ) → latest_at ends n ≡ Some number
      → (number < count) × (node_at (trail_of entries) number ≡ n)
      × (is_some (index_of (slice_get entries number)) ≡ small)
  pub complete : (number : ℕ) → number < count → is_some (index_of (slice_get entries number)) ≡ small
      → (other : ℕ) × (latest_at ends (node_at (trail_of entries) number) ≡ Some other)

-- the number is noted for the node, unless there is another one
pub record IsNoted (old new : List (Option ℕ)) (node number : ℕ) : Type 0 where
  pub as_long : length new ≡ length old
  pub only : (n other : ℕ) → latest_at new n ≡ Some other
      → (latest_at old n ≡ Some other) ⊎ ((n ≡ node) × (other ≡ number))
  pub kept : (n other : ℕ) → latest_at old n ≡ Some other → latest_at new n ≡ Some other
  pub there : (other : ℕ) × (latest_at new node ≡ Some other)

-- the entries at which the search found hits, or misses, by their nodes
abbrev pub ends_of : Found → Bool → List (Option ℕ)
ends_of found true = found.hits.items
ends_of found false = found.misses.items

-- a search that is done, and where it found hits and misses
pub record IsFound (view : View) (found : Found) : Type 0 where
  pub search : IsSearch view found.start found.block found.search
  pub spread : IsSpread view found.block (trail_of found.search.entries.items)
      (seen_of found.search.sets.items found.search.entries.items) (length found.search.entries.items)
  pub ends : (hits : Bool)
      → AreEnds found.search.entries.items (length found.search.entries.items) hits (ends_of found hits)
  pub one_each : (hits : Bool) → length (ends_of found hits) ≡ length view.nodes
