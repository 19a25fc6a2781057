-- The state of a search, and how it goes on.
use Rattle.std.specs.Prelude.{◌≡◌, ◌⊎◌, ℕ, ◌<◌, ◌≤◌, ◌^◌, List, [], ◌∷◌, ◌++◌, length, Option, Some, None, slice_get, slice_set, slice_index_or}
use Rattle.std.specs.List.Sorted.{IsStrictlyIncreasing}
use Rattle.cache_spec.specs.declared.start.Start.{Start}
use Rattle.cache_spec.specs.declared.start.Start.TheVariants.{Empty, Any}
use Rattle.path_trail.specs.Trail.{node_at}
use Rattle.set_view.specs.View.{View}
use Rattle.focus_plain.specs.declared.search.Entry.{Entry}
use Rattle.focus_plain.specs.declared.search.Search.{Search}
use Rattle.focus_plain.specs.Entries.{set_at, IsIndex, trail_of, seen_of, latest_at, next_of, index_of, IsCourse, IsBetween}

-- an entry of the path of node 0 alone
abbrev pub first_entry : Option ℕ → Option ℕ → Entry
first_entry younger next = record { node = 0; younger = younger; earlier = None; next = next }

-- the entries of that path: one without a set, and with any cache one with the empty set, which is first in the table
abbrev pub first_entries : Start → List Entry
first_entries Empty = first_entry None None ∷ []
first_entries Any = first_entry None None ∷ first_entry (Some 0) (Some 0) ∷ []

-- the first list is a prefix of the second
abbrev pub IsLonger : {X : Type 0} → List X → List X → Type 0
IsLonger {X} xs ys = (more : List X) × (ys ≡ xs ++ more)

-- the second list has the elements of the first, and perhaps one more
abbrev pub Grows : {X : Type 0} → List X → List X → Type 0
Grows {X} xs ys = (more : List X) × (length more ≤ 1) × (ys ≡ xs ++ more)

-- the numbers of each set rise
abbrev pub AreRising : List (List ℕ) → Type 0
AreRising sets = (index : ℕ) → index < length sets → IsStrictlyIncreasing (slice_index_or sets index [])

-- the links of a search: entries have numbers of 32 bits, the first set is the one without numbers, each index is one
-- of the table's, and the entries at a node are linked from the last one back
pub record AreLinked (search : Search) : Type 0 where
  pub few : length search.entries.items < 2 ^ 32
  pub few_sets : length search.sets.items ≤ length search.entries.items
  pub first : slice_get search.sets.items 0 ≡ Some []
  pub rising : AreRising search.sets.items
  pub indices : (number : ℕ) → number < length search.entries.items
      → IsIndex search.sets.items (index_of (slice_get search.entries.items number))
  pub inside : (number : ℕ) → number < length search.entries.items
      → node_at (trail_of search.entries.items) number < length search.latest.items
  pub latest : (n number : ℕ) → latest_at search.latest.items n ≡ Some number
      → (number < length search.entries.items) × (node_at (trail_of search.entries.items) number ≡ n)
  pub next : (number other : ℕ) → number < length search.entries.items
      → next_of (slice_get search.entries.items number) ≡ Some other
      → (other < number)
      × (node_at (trail_of search.entries.items) other ≡ node_at (trail_of search.entries.items) number)

-- a search: linked, with a last entry for each node, and each entry sound
pub record IsSearch (view : View) (start : Start) (block : ℕ) (search : Search) : Type 0 where
  pub linked : AreLinked search
  pub one_each : length search.latest.items ≡ length view.nodes
  pub course : IsCourse view start block (trail_of search.entries.items)
      (seen_of search.sets.items search.entries.items)

-- the later search has all that the earlier one had
pub record Extends (old new : Search) : Type 0 where
  pub trail : IsLonger (trail_of old.entries.items) (trail_of new.entries.items)
  pub seen : IsLonger (seen_of old.sets.items old.entries.items) (seen_of new.sets.items new.entries.items)
  pub sets : IsLonger old.sets.items new.sets.items

-- one entry was added, for an edge from an entry to a node, where this younger set is left
pub record IsAdded (old new : Search) (from to : ℕ) (younger : Option (List ℕ)) : Type 0 where
  pub index : Option ℕ
  pub kept : IsIndex new.sets.items index
  pub value : set_at new.sets.items index ≡ younger
  pub sets : Grows old.sets.items new.sets.items
  pub rising : AreRising new.sets.items
  pub few : length new.entries.items < 2 ^ 32
  pub entries : new.entries.items
      ≡ old.entries.items
      ++ record { node = to; younger = index; earlier = Some from; next = latest_at old.latest.items to } ∷ []
  pub latest : new.latest.items ≡ slice_set old.latest.items to (Some (length old.entries.items))

-- an edge from an entry was followed, with this younger set
abbrev pub IsFollowed : Search → Search → ℕ → Option ℕ → Option (List ℕ) → Type 0
IsFollowed old new from None younger = new ≡ old
IsFollowed old new from (Some to) younger =
    ((new ≡ old) × IsBetween (trail_of old.entries.items) (seen_of old.sets.items old.entries.items) to younger)
    ⊎ IsAdded old new from to younger
