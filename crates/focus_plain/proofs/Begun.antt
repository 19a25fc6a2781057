-- A search begins, and goes on from entry to entry.
use Rattle.std.proofs.Common.{◌≡◌, ℕ, zero, suc, ◌+◌, ◌-◌, ◌<◌, ◌≤◌, inl, inr, List, [], ◌∷◌, length, get_or, replicate, Option, Some, None, refl, sym, ap, subst, ◌∙◌, arith}
use Rattle.std.proofs.lemmas.Bool.{cases_eq, cases_lt}
use Rattle.std.proofs.lemmas.List.{length-map, get_or_append_left, get_or-set_same, get_or-set_other, get_or-replicate, get_or_past, length-set, length-replicate}
use Rattle.std.proofs.lemmas.Option.{same_Some, none-some}
use Rattle.std.specs.Prelude.{slice_get, slice_set}
use Rattle.std.specs.List.Sorted.{IsStrictlyIncreasing}
use Rattle.cache_spec.specs.declared.start.Start.{Start}
use Rattle.cache_spec.specs.declared.start.Start.TheVariants.{Empty, Any}
use Rattle.transition_spec.specs.Path.{IsSuccessor}
use Rattle.path_model.specs.Graph.{graph_step}
use Rattle.path_trail.specs.Trail.{TrailEntry, node_at, earlier_at, LeadsOn}
use Rattle.set_view.specs.View.{View}
use Rattle.set_list.specs.RisingSets.{rising-empty}
use Rattle.focus_plain.specs.declared.search.Entry.{Entry}
use Rattle.focus_plain.specs.declared.search.Search.{Search}
use Rattle.focus_plain.specs.Cut.{cut, IsFirst, left_by, cut_after}
use Rattle.focus_plain.specs.Entries.{BeginsWith, IsIndex, set_at, trail_entry, trail_of, seen_of, seen_at, latest_at, next_of, index_of, IsSound, IsCourse, IsBetween, IsSpread}
use Rattle.focus_plain.specs.Search.{AreLinked, IsSearch, Extends, AreRising, first_entries}
use Rattle.focus_plain.proofs.Order.{cut-small}
use Rattle.focus_plain.proofs.Course.{node_at-prefix}
use Rattle.focus_plain.proofs.Links.{length-trail, length-seen}
use Rattle.focus_plain.proofs.Followed.{between_extended}

-- the first set rises
one_rises : (index : ℕ) → IsStrictlyIncreasing (get_or ([] ∷ []) index [])
one_rises zero = rising-empty
one_rises (suc index) = rising-empty

-- an entry of the path of node 0 alone: at node 0, with no entry before it, and linked to the one that was made before
record IsFirstEntry (entries : List Entry) (number : ℕ) : Type 0 where
  node : node_at (trail_of entries) number ≡ 0
  earlier : earlier_at (trail_of entries) number ≡ None
  index : IsIndex ([] ∷ []) (index_of (slice_get entries number))
  next : (other : ℕ) → next_of (slice_get entries number) ≡ Some other → (other < number) × (other ≡ 0)

-- so is each of the first entries
first_is : (start : Start) (number : ℕ) → number < length (first_entries start)
    → IsFirstEntry (first_entries start) number
first_is Empty zero inside =
    record { node = refl; earlier = refl; index = tt; next = λ other is. absurd (none-some other is) }
first_is Empty (suc number) inside = absurd (omega arith)
first_is Any zero inside =
    record { node = refl; earlier = refl; index = tt; next = λ other is. absurd (none-some other is) }
first_is Any (suc zero) inside =
    record {
      node = refl;
      earlier = refl;
      index = omega arith;
      next = λ other is. let same = same_Some 0 other is in (omega (arith, same), sym same);
    }
first_is Any (suc (suc number)) inside = absurd (omega arith)

-- there is one at least, and there are two at most
first_count : (start : Start) → (1 ≤ length (first_entries start)) × (length (first_entries start) ≤ 2)
first_count Empty = (omega arith, omega arith)
first_count Any = (omega arith, omega arith)

-- what the first entries have seen
abbrev first_seen : Start → List (Option (List ℕ))
first_seen start = seen_of ([] ∷ []) (first_entries start)

-- there is one for each set that is there before the first fetch
first_begun : (view : View) (start : Start) (block : ℕ) (first : Option (List ℕ)) → 1 ≤ view.geometry.ways
    → IsFirst start first
    → BeginsWith (trail_of (first_entries start)) (first_seen start) (left_by view block first [])
first_begun view Empty block first some (inl is) = (0, omega arith, refl, ap (cut view.geometry.ways) (sym is))
first_begun view Empty block first some (inr is) = (0, omega arith, refl, ap (cut view.geometry.ways) (sym is))
first_begun view Any block first some (inl is) = (0, omega arith, refl, ap (cut view.geometry.ways) (sym is))
first_begun view Any block first some (inr is) = (
  1,
  omega arith,
  refl,
  sym (cut-small view.geometry.ways [] (omega (arith, some))) ∙ ap (cut view.geometry.ways) (sym is),
)

-- each is sound
first_sound : (view : View) (start : Start) (block number : ℕ) → 1 ≤ view.geometry.ways
    → number < length (first_entries start)
    → IsSound view start block (trail_of (first_entries start)) number (seen_at (first_seen start) number)
first_sound view Empty block zero some inside = ([], (refl, tt), (None, inl refl, refl))
first_sound view Empty block (suc number) some inside = absurd (omega arith)
first_sound view Any block zero some inside = ([], (refl, tt), (None, inl refl, refl))
first_sound view Any block (suc zero) some inside =
    ([], (refl, tt), (Some [], inr refl, cut-small view.geometry.ways [] (omega (arith, some))))
first_sound view Any block (suc (suc number)) some inside = absurd (omega arith)

-- the course of the path of node 0 alone
course_begun : (view : View) (start : Start) (block : ℕ) → 1 ≤ view.geometry.ways
    → IsCourse view start block (trail_of (first_entries start)) (first_seen start)
course_begun view start block some = record {
  one_each = length-map (first_entries start) (λ (e : Entry). set_at ([] ∷ []) e.younger)
      ∙ sym (length-map (first_entries start) trail_entry);
  begun = λ first is. first_begun view start block first some is;
  follows = λ number inside.
      let one = first_is start number (omega (arith, inside, length-trail (first_entries start))) in
      subst (λ (o : Option ℕ). LeadsOn view.nodes (trail_of (first_entries start)) number o
      (node_at (trail_of (first_entries start)) number)) (sym one.earlier) one.node;
  sound = λ number inside.
      first_sound view start block number some (omega (arith, inside, length-trail (first_entries start)));
}

-- no number
abbrev pub nothing : Option ℕ
nothing = None

-- among no last entries there is none
pub none_last : (count n : ℕ) → get_or (replicate count nothing) n nothing ≡ nothing
none_last count n = elim (cases_lt n count) [
  | inl inside ↦ get_or-replicate count n None None inside
  | inr past ↦ get_or_past (replicate count None) n None (omega (arith, past, length-replicate count nothing))
]

-- only node 0 has a last entry
latest_begun : (count last n number : ℕ) → 1 ≤ count
    → latest_at (slice_set (replicate count None) 0 (Some last)) n ≡ Some number → (n ≡ 0) × (number ≡ last)
latest_begun count last n number some found = elim (cases_eq n 0) [
  | inl same ↦
      let here = get_or-set_same (replicate count None) 0 (Some last) None
      (omega (arith, some, length-replicate count nothing)) in (
        same,
        sym (same_Some last number (sym here
            ∙ sym (ap (latest_at (slice_set (replicate count None) 0 (Some last))) same) ∙ found)),
      )
  | inr other ↦ absurd (none-some number (sym (none_last count n) ∙ sym
      (get_or-set_other (replicate count None) 0 n (Some last) None other) ∙ found))
]

module _ (search : Search) (count : ℕ) (start : Start) (some : 1 ≤ count)
    (entries : search.entries.items ≡ first_entries start) (sets : search.sets.items ≡ [] ∷ [])
    (latest : search.latest.items
    ≡ slice_set (replicate count None) 0 (Some (length (first_entries start) - 1))) where
  -- as many last entries as nodes
  latest_long : length search.latest.items ≡ count
  latest_long = ap length latest ∙ length-set (replicate count None) 0 (Some (length (first_entries start) - 1))
      ∙ length-replicate count None

  -- an entry is one of the first
  one_of : (number : ℕ) → number < length search.entries.items → IsFirstEntry search.entries.items number
  one_of number inside =
      subst (λ (es : List Entry). IsFirstEntry es number) (sym entries)
      (first_is start number (omega (arith, inside, ap length entries)))

  -- the links hold
  linked_begun : AreLinked search
  linked_begun =
      let (least, most) = first_count start in
      record {
        few = omega (arith, ap length entries, most);
        few_sets = omega (arith, ap length entries, ap length sets, least);
        first = ap (λ (s : List (List ℕ)). slice_get s 0) sets;
        rising = subst AreRising (sym sets) (λ index inside. one_rises index);
        indices = λ number inside.
            subst (λ (s : List (List ℕ)). IsIndex s (index_of (slice_get search.entries.items number))) (sym sets)
            (one_of number inside).index;
        inside = λ number inside. omega (arith, (one_of number inside).node, latest_long, some);
        latest = λ n number found.
            let (at, last) = latest_begun count (length (first_entries start) - 1) n number some
            (subst (λ (l : List (Option ℕ)). latest_at l n ≡ Some number) latest found) in
            let inside : number < length search.entries.items = omega (arith, last, least, ap length entries) in
            (inside, (one_of number inside).node ∙ sym at);
        next = λ number other inside is.
            let (smaller, zero_is) = (one_of number inside).next other is in
            (smaller, (one_of other (omega (arith, smaller, inside))).node ∙ sym (one_of number inside).node);
      }

  -- so the search has begun
  pub search_begun : (view : View) (block : ℕ) → 1 ≤ view.geometry.ways → count ≡ length view.nodes
      → IsSearch view start block search
  search_begun view block ways nodes = record {
    linked = linked_begun;
    one_each = latest_long ∙ nodes;
    course = subst (λ (es : List Entry). IsCourse view start block (trail_of es) (seen_of search.sets.items es))
        (sym entries)
        (subst (λ (s : List (List ℕ)). IsCourse view start block (trail_of (first_entries start))
        (seen_of s (first_entries start))) (sym sets) (course_begun view start block ways));
  }

-- one entry more is spread
pub spread_more : (view : View) (start : Start) (block : ℕ) (old new : Search) (index : ℕ)
    → IsSearch view start block old → Extends old new
    → index < length old.entries.items
    → IsSpread view block (trail_of old.entries.items) (seen_of old.sets.items old.entries.items) index
    → ((m : ℕ) → IsSuccessor (graph_step view.nodes) (node_at (trail_of old.entries.items) index) m
    → IsBetween (trail_of new.entries.items) (seen_of new.sets.items new.entries.items) m
    (cut_after view block (node_at (trail_of old.entries.items) index)
    (seen_at (seen_of old.sets.items old.entries.items) index)))
    → IsSpread view block (trail_of new.entries.items) (seen_of new.sets.items new.entries.items) (index + 1)
spread_more view start block old new index is extends inside spread here number m below edge =
    let there : number < length old.entries.items = omega arith in
    let node : node_at (trail_of new.entries.items) number ≡ node_at (trail_of old.entries.items) number =
    ap (λ (t : List TrailEntry). node_at t number) extends.trail.1
    ∙ node_at-prefix (trail_of old.entries.items) extends.trail.0 number
    (omega (arith, there, length-trail old.entries.items)) in
    let seen : seen_at (seen_of new.sets.items new.entries.items) number
    ≡ seen_at (seen_of old.sets.items old.entries.items) number =
    ap (λ (s : List (Option (List ℕ))). seen_at s number) extends.seen.1
    ∙ get_or_append_left (seen_of old.sets.items old.entries.items) extends.seen.0 None number
    (omega (arith, there, length-seen old.sets.items old.entries.items)) in
    let P : ℕ → Type 0 = λ k. IsSuccessor (graph_step view.nodes) (node_at (trail_of old.entries.items) k) m
    → IsBetween (trail_of new.entries.items) (seen_of new.sets.items new.entries.items) m
    (cut_after view block (node_at (trail_of old.entries.items) k)
    (seen_at (seen_of old.sets.items old.entries.items) k)) in
    let at : P number = elim (cases_eq index number) [
      | inl same ↦ subst P same (here m)
      | inr other ↦ λ e. between_extended view start block old new m _ is extends (spread number m (omega arith) e)
    ] in
    subst (λ (n : ℕ). IsBetween (trail_of new.entries.items) (seen_of new.sets.items new.entries.items) m
    (cut_after view block n (seen_at (seen_of new.sets.items new.entries.items) number))) (sym node)
    (subst (λ (o : Option (List ℕ)). IsBetween (trail_of new.entries.items) (seen_of new.sets.items new.entries.items) m
    (cut_after view block (node_at (trail_of old.entries.items) number) o)) (sym seen)
    (at (subst (λ (n : ℕ). IsSuccessor (graph_step view.nodes) n m) node edge)))
