-- Younger and warm sets as far as they matter to hits: those with fewer blocks than the cache set has ways; all others
-- are None, above everything.
use Rattle.std.specs.Prelude.{◌≡◌, ◌⊎◌, ℕ, if◌then◌else◌, nat_lt, List, length, map, Option, Some, None}
use Rattle.cache_spec.specs.declared.start.Start.{Start}
use Rattle.set_list.specs.SetList.{IsSubset}
use Rattle.focus_spec.specs.Younger.{after, after_all, first_warm, fetch_at}
use Rattle.set_view.specs.View.{View}

-- the younger set where it is small
abbrev pub cut : ℕ → Option (List ℕ) → Option (List ℕ)
cut ways None = None
cut ways (Some set) = if nat_lt (length set) ways then Some set else None

-- there is a younger set, and it is included in this set
abbrev pub IsWithin : Option (List ℕ) → List ℕ → Type 0
IsWithin None larger = ⊥
IsWithin (Some set) larger = IsSubset set larger

-- the first is included in the second, or the second is None
abbrev pub IsBelow : Option (List ℕ) → Option (List ℕ) → Type 0
IsBelow younger None = Unit {0}
IsBelow younger (Some larger) = IsWithin younger larger

-- what is there before the first fetch: no younger set, and the start's warm set
abbrev pub IsFirst : Start → Option (List ℕ) → Type 0
IsFirst start first = (first ≡ None) ⊎ (first ≡ first_warm start)

-- what these members of a path, the last of them first, make of what is there before the first fetch
abbrev pub left_by : View → ℕ → Option (List ℕ) → List ℕ → Option (List ℕ)
left_by view block first members =
    cut view.geometry.ways (after_all block (map (fetch_at view.fetches) members) first)

-- what a node makes of the younger set before it
abbrev pub cut_after : View → ℕ → ℕ → Option (List ℕ) → Option (List ℕ)
cut_after view block n younger = cut view.geometry.ways (after block (fetch_at view.fetches n) younger)
