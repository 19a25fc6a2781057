-- What the links of a search give.
use Rattle.std.proofs.Common.{◌≡◌, ℕ, zero, suc, ◌+◌, ◌<◌, List, [], ◌∷◌, length, get_or, Option, Some, None, option_map, refl, sym, ap, subst, ◌∙◌, arith}
use Rattle.std.proofs.lemmas.List.{length-map}
use Rattle.std.proofs.lemmas.Option.{slice_get-map, slice_get-get_or}
use Rattle.std.specs.Prelude.{slice_get}
use Rattle.path_trail.specs.Trail.{node_of, node_at}
use Rattle.focus_plain.specs.declared.search.Entry.{Entry}
use Rattle.focus_plain.specs.declared.search.Search.{Search}
use Rattle.focus_plain.specs.Cut.{IsBelow}
use Rattle.focus_plain.specs.Entries.{IsIndex, HasBelow, HasAbove, set_at, trail_entry, trail_of, seen_of, seen_at, next_of, index_of}
use Rattle.focus_plain.specs.Search.{AreLinked}

-- how many entries may still come
abbrev pub left : Option ℕ → ℕ
left None = 0
left (Some number) = number + 1

-- what an entry that is read says
pub entry_read : (entries : List Entry) (number : ℕ) (entry : Entry) → number < length entries
    → entry ≡ get_or entries number entry → slice_get entries number ≡ Some entry
entry_read entries number entry inside is = slice_get-get_or entries number entry inside ∙ ap Some (sym is)

-- its node
pub node-read : (entries : List Entry) (number : ℕ) (entry : Entry) → slice_get entries number ≡ Some entry
    → node_at (trail_of entries) number ≡ entry.node
node-read entries number entry is = ap node_of (slice_get-map trail_entry entries number ∙ ap (option_map trail_entry)
    is)

-- its younger set
pub seen-read : (sets : List (List ℕ)) (entries : List Entry) (number : ℕ) (entry : Entry)
    → slice_get entries number ≡ Some entry
    → seen_at (seen_of sets entries) number ≡ set_at sets entry.younger
seen-read sets [] number entry is = absurd (cc)
seen-read sets (first ∷ entries) zero entry is = let same : first ≡ entry =
    cc in ap (λ (e : Entry). set_at sets e.younger) same
seen-read sets (first ∷ entries) (suc number) entry is = seen-read sets entries number entry is

-- the index of its younger set is one of the table's
pub index-read : (search : Search) (number : ℕ) (entry : Entry) → AreLinked search
    → number < length search.entries.items
    → slice_get search.entries.items number ≡ Some entry → IsIndex search.sets.items entry.younger
index-read search number entry linked inside is =
    subst (λ (o : Option Entry). IsIndex search.sets.items (index_of o)) is (linked.indices number inside)

-- the entries at a node are linked
pub next-read : (search : Search) (number : ℕ) (entry : Entry) (other n : ℕ) → AreLinked search
    → number < length search.entries.items
    → slice_get search.entries.items number ≡ Some entry → node_at (trail_of search.entries.items) number ≡ n
    → entry.next ≡ Some other
    → (other < number) × (other < length search.entries.items) × (node_at (trail_of search.entries.items) other ≡ n)
next-read search number entry other n linked inside is at next =
    let step = linked.next number other inside (ap next_of is ∙ next) in
    let smaller : other < number = step.0 in
    (smaller, omega arith, step.1 ∙ at)

-- entries of the trail are entries
pub length-trail : (entries : List Entry) → length (trail_of entries) ≡ length entries
length-trail entries = length-map entries trail_entry

-- as many younger sets
pub length-seen : (sets : List (List ℕ)) (entries : List Entry) → length (seen_of sets entries) ≡ length entries
length-seen sets entries = length-map entries (λ entry. set_at sets entry.younger)

-- an entry at the node lies below
pub found_below : (entries : List Entry) (seen : List (Option (List ℕ))) (n number : ℕ) (younger : Option (List ℕ))
    → (number < length entries) × (node_at (trail_of entries) number ≡ n) → IsBelow (seen_at seen number) younger
    → HasBelow (trail_of entries) seen n younger
found_below entries seen n number younger at below = (number, omega (arith, at.0, length-trail entries), at.1, below)

-- an entry at the node lies above
pub found_above : (entries : List Entry) (seen : List (Option (List ℕ))) (n number : ℕ) (younger : Option (List ℕ))
    → (number < length entries) × (node_at (trail_of entries) number ≡ n) → IsBelow younger (seen_at seen number)
    → HasAbove (trail_of entries) seen n younger
found_above entries seen n number younger at above = (number, omega (arith, at.0, length-trail entries), at.1, above)

-- the entries go back
pub left-falls : (next now : Option ℕ) (number : ℕ) → now ≡ Some number
    → ((other : ℕ) → next ≡ Some other → other < number) → left next < left now
left-falls None now number is smaller = subst (λ (o : Option ℕ). 0 < left o) (sym is) (omega arith)
left-falls (Some other) now number is smaller =
    let less = smaller other refl in
    subst (λ (o : Option ℕ). other + 1 < left o) (sym is) (omega arith)
