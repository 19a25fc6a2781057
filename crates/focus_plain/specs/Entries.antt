-- What the entries of a search say: each stands for a path, and together they lie below and above what all paths leave.
use Rattle.std.specs.Prelude.{◌≡◌, ℕ, ◌<◌, List, [], ◌∷◌, length, map, Option, Some, None, slice_index_or}
use Rattle.cache_spec.specs.declared.start.Start.{Start}
use Rattle.transition_spec.specs.Path.{IsSuccessor}
use Rattle.path_model.specs.Graph.{graph_step}
use Rattle.path_trail.specs.Trail.{TrailEntry, node_at, IsChain, IsTrail}
use Rattle.focus_spec.specs.Younger.{with_number}
use Rattle.set_view.specs.View.{View}
use Rattle.focus_plain.specs.declared.search.Entry.{Entry}
use Rattle.focus_plain.specs.declared.reach.Reach.{Reach}
use Rattle.focus_plain.specs.Cut.{IsBelow, IsFirst, left_by, cut_after}

-- the set with one more number, if there is one
abbrev pub with_more : Option ℕ → List ℕ → List ℕ
with_more None set = set
with_more (Some x) set = with_number x set

-- the set at an index of the table
abbrev pub set_at : List (List ℕ) → Option ℕ → Option (List ℕ)
set_at sets None = None
set_at sets (Some index) = Some (slice_index_or sets index [])

-- the set that is reached
abbrev pub reached_set : List (List ℕ) → Option Reach → Option (List ℕ)
reached_set sets None = None
reached_set sets (Some reach) = Some (with_more reach.more (slice_index_or sets reach.index []))

-- the index is one of the table's
abbrev pub IsIndex : List (List ℕ) → Option ℕ → Type 0
IsIndex sets None = Unit {0}
IsIndex sets (Some index) = index < length sets

-- so is the index of what is reached
abbrev pub IsReachable : List (List ℕ) → Option Reach → Type 0
IsReachable sets None = Unit {0}
IsReachable sets (Some reach) = reach.index < length sets

-- an entry of a trail
abbrev pub trail_entry : Entry → TrailEntry
trail_entry entry = record { node = entry.node; earlier = entry.earlier }

-- the entries as a trail
abbrev pub trail_of : List Entry → List TrailEntry
trail_of entries = map trail_entry entries

-- the younger sets of the entries
abbrev pub seen_of : List (List ℕ) → List Entry → List (Option (List ℕ))
seen_of sets entries = map (λ entry. set_at sets entry.younger) entries

-- the younger set of the entry with this number
abbrev pub seen_at : List (Option (List ℕ)) → ℕ → Option (List ℕ)
seen_at seen number = slice_index_or seen number None

-- the members of a path leave this set, from one that is there before the first fetch
abbrev pub IsLeft : View → Start → ℕ → List ℕ → Option (List ℕ) → Type 0
IsLeft view start block members set =
    (first : Option (List ℕ)) × IsFirst start first × (left_by view block first members ≡ set)

-- the chain of an entry leaves this set before the entry's node
abbrev pub IsSound : View → Start → ℕ → List TrailEntry → ℕ → Option (List ℕ) → Type 0
IsSound view start block trail number set =
    (earlier : List ℕ) × IsChain trail (Some number) (node_at trail number ∷ earlier)
    × IsLeft view start block earlier set

-- an entry of the path of node 0 alone has seen this set
abbrev pub BeginsWith : List TrailEntry → List (Option (List ℕ)) → Option (List ℕ) → Type 0
BeginsWith trail seen set =
    (number : ℕ) × (number < length trail) × (node_at trail number ≡ 0) × (seen_at seen number ≡ set)

-- there is an entry for each set that is there before the first fetch, each entry follows an edge, and each is sound
pub record IsCourse (view : View) (start : Start) (block : ℕ) (trail : List TrailEntry)
    (seen : List (Option (List ℕ))) : Type 0 where
  pub one_each : length seen ≡ length trail
  pub begun : (first : Option (List ℕ)) → IsFirst start first → BeginsWith trail seen (left_by view block first [])
  pub follows : IsTrail view.nodes trail
  pub sound : (number : ℕ) → number < length trail → IsSound view start block trail number (seen_at seen number)

-- an entry at the node has a younger set that is below this one
abbrev pub HasBelow : List TrailEntry → List (Option (List ℕ)) → ℕ → Option (List ℕ) → Type 0
HasBelow trail seen n younger =
    (number : ℕ) × (number < length trail) × (node_at trail number ≡ n) × IsBelow (seen_at seen number) younger

-- an entry at the node has a younger set that is above this one
abbrev pub HasAbove : List TrailEntry → List (Option (List ℕ)) → ℕ → Option (List ℕ) → Type 0
HasAbove trail seen n younger =
    (number : ℕ) × (number < length trail) × (node_at trail number ≡ n) × IsBelow younger (seen_at seen number)

-- both
pub record IsBetween (trail : List TrailEntry) (seen : List (Option (List ℕ))) (n : ℕ) (younger : Option (List ℕ))
    : Type 0 where
  pub below : HasBelow trail seen n younger
  pub above : HasAbove trail seen n younger

-- what the first entries lead to lies between entries
abbrev pub IsSpread : View → ℕ → List TrailEntry → List (Option (List ℕ)) → ℕ → Type 0
IsSpread view block trail seen count = (number m : ℕ) → number < count
    → IsSuccessor (graph_step view.nodes) (node_at trail number) m
    → IsBetween trail seen m (cut_after view block (node_at trail number) (seen_at seen number))

-- the number of the entry that was made last at a node
abbrev pub latest_at : List (Option ℕ) → ℕ → Option ℕ
latest_at latest n = slice_index_or latest n None

-- the entry before it, at the same node
abbrev pub next_of : Option Entry → Option ℕ
next_of None = None
next_of (Some entry) = entry.next

-- the index of its younger set
abbrev pub index_of : Option Entry → Option ℕ
index_of None = None
index_of (Some entry) = entry.younger
