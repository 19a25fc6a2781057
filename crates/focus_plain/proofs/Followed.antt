-- An edge that is followed keeps the search, and what it leads to then lies between entries.
use Rattle.std.proofs.Common.{◌≡◌, ℕ, ◌+◌, ◌<◌, ◌≤◌, ◌⊎◌, inl, inr, List, [], ◌∷◌, ◌++◌, length, Option, Some, None, suc, refl, sym, ap, subst, ◌∙◌, arith, length-append, append_assoc}
use Rattle.std.proofs.lemmas.Bool.{cases_eq}
use Rattle.std.proofs.lemmas.List.{get_or-set_same, get_or-set_other, length-set, length_push, map-append, append-nil}
use Rattle.std.proofs.lemmas.Option.{slice_get_within, same_Some}
use Rattle.std.specs.Prelude.{slice_get, slice_set}
use Rattle.cache_spec.specs.declared.start.Start.{Start}
use Rattle.transition_spec.specs.Path.{IsSuccessor}
use Rattle.path_model.specs.Graph.{graph_step}
use Rattle.path_trail.specs.Trail.{TrailEntry, node_of, node_at}
use Rattle.set_view.specs.View.{View}
use Rattle.focus_plain.specs.declared.search.Entry.{Entry}
use Rattle.focus_plain.specs.declared.search.Search.{Search}
use Rattle.focus_plain.specs.Cut.{cut_after}
use Rattle.focus_plain.specs.Entries.{IsIndex, set_at, trail_entry, trail_of, seen_of, seen_at, latest_at, next_of, index_of, IsCourse, IsBetween}
use Rattle.focus_plain.specs.Search.{IsLonger, AreLinked, IsSearch, Extends, IsAdded, IsFollowed}
use Rattle.focus_plain.proofs.Course.{slice_get-prefix, slice_get-after, course_more, between_new, between_kept}
use Rattle.focus_plain.proofs.Table.{set_at-longer, index-longer, longer-grows}
use Rattle.focus_plain.proofs.Links.{length-trail}

-- with more sets the entries have seen the same
seen_of-longer : (sets new : List (List ℕ)) (entries : List Entry) → IsLonger sets new
    → ((number : ℕ) → number < length entries → IsIndex sets (index_of (slice_get entries number)))
    → seen_of new entries ≡ seen_of sets entries
seen_of-longer sets new [] longer indices = refl
seen_of-longer sets new (entry ∷ entries) longer indices =
    let first : set_at new entry.younger ≡ set_at sets entry.younger =
    set_at-longer sets new entry.younger longer (indices 0 (omega arith)) in
    let rest : seen_of new entries ≡ seen_of sets entries =
    seen_of-longer sets new entries longer (λ number inside. indices (suc number) (omega arith)) in
    cc

module _ (view : View) (start : Start) (block : ℕ) (old new : Search) (is : IsSearch view start block old) (from to : ℕ)
    (from_inside : from < length old.entries.items)
    (edge : IsSuccessor (graph_step view.nodes) (node_at (trail_of old.entries.items) from) to)
    (to_inside : to < length old.latest.items)
    (added : IsAdded old new from to (cut_after view block (node_at (trail_of old.entries.items) from)
    (seen_at (seen_of old.sets.items old.entries.items) from))) where
  -- the entry that was added
  abbrev entry : Entry
  entry = record { node = to; younger = added.index; earlier = Some from; next = latest_at old.latest.items to }

  -- what it has seen
  abbrev younger : Option (List ℕ)
  younger = cut_after view block (node_at (trail_of old.entries.items) from)
      (seen_at (seen_of old.sets.items old.entries.items) from)

  -- the table grew
  sets_longer : IsLonger old.sets.items new.sets.items
  sets_longer = longer-grows old.sets.items new.sets.items added.sets

  -- the trail
  trail_is : trail_of new.entries.items ≡ trail_of old.entries.items ++ record { node = to; earlier = Some from } ∷ []
  trail_is = ap trail_of added.entries ∙ map-append trail_entry old.entries.items (entry ∷ [])

  -- and what was seen
  seen_is : seen_of new.sets.items new.entries.items ≡ seen_of old.sets.items old.entries.items ++ younger ∷ []
  seen_is =
      ap (seen_of new.sets.items) added.entries
      ∙ map-append (λ (e : Entry). set_at new.sets.items e.younger) old.entries.items (entry ∷ [])
      ∙ ap (λ (seen : List (Option (List ℕ))). seen ++ set_at new.sets.items added.index ∷ [])
      (seen_of-longer old.sets.items new.sets.items old.entries.items sets_longer is.linked.indices)
      ∙ ap (λ (o : Option (List ℕ)). seen_of old.sets.items old.entries.items ++ o ∷ []) added.value

  -- there is one entry more
  longer_by_one : length new.entries.items ≡ length old.entries.items + 1
  longer_by_one = ap length added.entries ∙ length_push old.entries.items entry

  -- an entry is an old one or the new one
  old_or_new : (number : ℕ) → number < length new.entries.items
      → (number < length old.entries.items) ⊎ (number ≡ length old.entries.items)
  old_or_new number inside = elim (cases_eq number (length old.entries.items))
      [ inl same ↦ inr same | inr other ↦ inl (omega (arith, longer_by_one, inside)) ]

  -- an old entry
  old_entry : (number : ℕ) → number < length old.entries.items
      → slice_get new.entries.items number ≡ slice_get old.entries.items number
  old_entry number inside = ap (λ (es : List Entry). slice_get es number) added.entries
      ∙ slice_get-prefix old.entries.items (entry ∷ []) number inside

  -- the new entry
  new_entry : (number : ℕ) → number ≡ length old.entries.items → slice_get new.entries.items number ≡ Some entry
  new_entry number last = ap (slice_get new.entries.items) last
      ∙ ap (λ (es : List Entry). slice_get es (length old.entries.items)) added.entries
      ∙ slice_get-after old.entries.items entry

  -- the node of an old entry
  old_node : (number : ℕ) → number < length old.entries.items
      → node_at (trail_of new.entries.items) number ≡ node_at (trail_of old.entries.items) number
  old_node number inside =
      ap (λ (t : List TrailEntry). node_at t number) trail_is
      ∙ ap node_of
      (slice_get-prefix (trail_of old.entries.items) (record { node = to; earlier = Some from } ∷ []) number
      (omega (arith, inside, length-trail old.entries.items)))

  -- the node of the new entry
  new_node : (number : ℕ) → number ≡ length old.entries.items → node_at (trail_of new.entries.items) number ≡ to
  new_node number last =
      ap (node_at (trail_of new.entries.items)) (last ∙ sym (length-trail old.entries.items))
      ∙ ap (λ (t : List TrailEntry). node_at t (length (trail_of old.entries.items))) trail_is
      ∙ ap node_of (slice_get-after (trail_of old.entries.items) (record { node = to; earlier = Some from }))

  -- the last entry at each node
  latest_kept : (n number : ℕ) → latest_at new.latest.items n ≡ Some number
      → (number < length new.entries.items) × (node_at (trail_of new.entries.items) number ≡ n)
  latest_kept n number found =
      let set : latest_at (slice_set old.latest.items to (Some (length old.entries.items))) n ≡ Some number =
      subst (λ (latest : List (Option ℕ)). latest_at latest n ≡ Some number) added.latest found in
      elim (cases_eq n to) [
        | inl same ↦
            let here : latest_at (slice_set old.latest.items to (Some (length old.entries.items))) n
            ≡ Some (length old.entries.items) =
            ap (latest_at (slice_set old.latest.items to (Some (length old.entries.items)))) same
            ∙ get_or-set_same old.latest.items to (Some (length old.entries.items)) None to_inside in
            let last : number ≡ length old.entries.items =
            same_Some number (length old.entries.items) (sym set ∙ here) in
            (omega (arith, longer_by_one, last), new_node number last ∙ sym same)
        | inr other ↦
            let there = is.linked.latest n number (sym (get_or-set_other old.latest.items to n
            (Some (length old.entries.items)) None other) ∙ set) in
            (omega (arith, longer_by_one, there.0), old_node number there.0 ∙ there.1)
      ]

  -- the entries at a node are linked
  next_kept : (number other : ℕ) → number < length new.entries.items
      → next_of (slice_get new.entries.items number) ≡ Some other
      → (other < number) × (node_at (trail_of new.entries.items) other ≡ node_at (trail_of new.entries.items) number)
  next_kept number other inside next = elim (old_or_new number inside) [
    | inl before ↦
        let step = is.linked.next number other before (sym (ap next_of (old_entry number before)) ∙ next) in
        let smaller : other < number = step.0 in
        (smaller, old_node other (omega (arith, smaller, before)) ∙ step.1 ∙ sym (old_node number before))
    | inr last ↦
        let there = is.linked.latest to other (sym (ap next_of (new_entry number last)) ∙ next) in
        (omega (arith, there.0, last), old_node other there.0 ∙ there.1 ∙ sym (new_node number last))
  ]

  -- the links hold
  linked_kept : AreLinked new
  linked_kept =
      let grown : length new.sets.items ≤ length old.sets.items + 1 =
      omega (arith, ap length added.sets.2, length-append old.sets.items added.sets.0, added.sets.1) in
      let some : 0 < length old.sets.items = slice_get_within old.sets.items 0 [] is.linked.first in
      record {
        few = added.few;
        few_sets = omega (arith, grown, longer_by_one, is.linked.few_sets);
        first = ap (λ (s : List (List ℕ)). slice_get s 0) sets_longer.1
            ∙ slice_get-prefix old.sets.items sets_longer.0 0 some ∙ is.linked.first;
        rising = added.rising;
        indices = λ number inside. elim (old_or_new number inside) [
          | inl before ↦ index-longer old.sets.items new.sets.items (index_of (slice_get new.entries.items number))
              sets_longer
              (subst (λ (o : Option Entry). IsIndex old.sets.items (index_of o)) (sym (old_entry number before))
              (is.linked.indices number before))
          | inr last ↦ subst (λ (o : Option Entry). IsIndex new.sets.items (index_of o)) (sym (new_entry number last))
              added.kept
        ];
        inside = λ number inside.
            let as_long : length new.latest.items ≡ length old.latest.items =
            ap length added.latest ∙ length-set old.latest.items to (Some (length old.entries.items)) in
            elim (old_or_new number inside) [
              | inl before ↦ omega (arith, as_long, old_node number before, is.linked.inside number before)
              | inr last ↦ omega (arith, as_long, new_node number last, to_inside)
            ];
        latest = latest_kept;
        next = next_kept;
      }

  -- the entry before is in the trail
  from_there : from < length (trail_of old.entries.items)
  from_there = omega (arith, from_inside, length-trail old.entries.items)

  -- the search goes on
  pub search_kept : IsSearch view start block new
  search_kept = record {
    linked = linked_kept;
    one_each = ap length added.latest ∙ length-set old.latest.items to (Some (length old.entries.items)) ∙ is.one_each;
    course = subst (λ (t : List TrailEntry). IsCourse view start block t (seen_of new.sets.items new.entries.items))
        (sym trail_is)
        (subst (IsCourse view start block (trail_of old.entries.items ++ record { node = to; earlier = Some from } ∷
        []))
        (sym seen_is)
        (course_more view start block (trail_of old.entries.items) (seen_of old.sets.items old.entries.items) is.course
        from
        to from_there edge));
  }

  -- all that was there is there
  pub added_extends : Extends old new
  added_extends = record {
    trail = (record { node = to; earlier = Some from } ∷ [], trail_is);
    seen = (younger ∷ [], seen_is);
    sets = sets_longer;
  }

  -- what the edge leads to lies between entries
  pub added_between : IsBetween (trail_of new.entries.items) (seen_of new.sets.items new.entries.items) to younger
  added_between =
      subst (λ (t : List TrailEntry). IsBetween t (seen_of new.sets.items new.entries.items) to younger) (sym trail_is)
      (subst (λ (s : List (Option (List ℕ))). IsBetween (trail_of old.entries.items ++ record
      { node = to; earlier = Some from } ∷ []) s to younger) (sym seen_is)
      (between_new view start block (trail_of old.entries.items) (seen_of old.sets.items old.entries.items) is.course
      from to
      from_there edge))

-- a list is as long as itself
longer_refl : {X : Type 0} (xs : List X) → IsLonger xs xs
longer_refl xs = ([], sym (append-nil xs))

-- a longer list than a longer one
longer_trans : {X : Type 0} (xs ys zs : List X) → IsLonger xs ys → IsLonger ys zs → IsLonger xs zs
longer_trans xs ys zs one two = (one.0 ++ two.0, two.1 ∙ ap (λ l. l ++ two.0) one.1 ∙ append_assoc xs one.0 two.0)

-- a search has all that it has
pub extends_refl : (search : Search) → Extends search search
extends_refl search = record { trail = longer_refl _; seen = longer_refl _; sets = longer_refl _ }

-- a search that goes on twice
pub extends_trans : (one two three : Search) → Extends one two → Extends two three → Extends one three
extends_trans one two three first second = record {
  trail = longer_trans _ _ _ first.trail second.trail;
  seen = longer_trans _ _ _ first.seen second.seen;
  sets = longer_trans _ _ _ first.sets second.sets;
}

-- the search went on along an edge, and what it leads to lies between entries
pub record IsStepped (view : View) (start : Start) (block : ℕ) (old new : Search) (to : Option ℕ)
    (younger : Option (List ℕ)) : Type 0
  where
    pub search : IsSearch view start block new
    pub extends : Extends old new
    pub between : (m : ℕ) → to ≡ Some m
        → IsBetween (trail_of new.entries.items) (seen_of new.sets.items new.entries.items) m younger

-- a followed edge does so
pub stepped : (view : View) (start : Start) (block : ℕ) (old new : Search) (from : ℕ) (to : Option ℕ)
    (younger : Option (List ℕ))
    → IsSearch view start block old → from < length old.entries.items
    → ((m : ℕ) → to ≡ Some m → IsSuccessor (graph_step view.nodes) (node_at (trail_of old.entries.items) from) m)
    → ((m : ℕ) → to ≡ Some m → m < length old.latest.items)
    → younger ≡ cut_after view block (node_at (trail_of old.entries.items) from)
    (seen_at (seen_of old.sets.items old.entries.items) from)
    → IsFollowed old new from to younger → IsStepped view start block old new to younger
stepped view start block old new from None younger is inside edges ends value followed =
    let same : old ≡ new = sym followed in
    record {
      search = subst (IsSearch view start block) same is;
      extends = subst (Extends old) same (extends_refl old);
      between = λ m no. absurd (cc);
    }
stepped view start block old new from (Some to) younger is inside edges ends value (inl kept) =
    let same : old ≡ new = sym kept.0 in
    record {
      search = subst (IsSearch view start block) same is;
      extends = subst (Extends old) same (extends_refl old);
      between = λ m at.
          let here : to ≡ m = same_Some to m at in
          subst (λ (s : Search). IsBetween (trail_of s.entries.items) (seen_of s.sets.items s.entries.items) m younger)
          same
          (subst (λ (k : ℕ). IsBetween (trail_of old.entries.items) (seen_of old.sets.items old.entries.items) k
          younger) here kept.1);
    }
stepped view start block old new from (Some to) younger is inside edges ends value (inr more) =
    let added = subst (IsAdded old new from to) value more in
    let edge = edges to refl in
    record {
      search = search_kept view start block old new is from to inside edge (ends to refl) added;
      extends = added_extends view start block old new is from to inside edge (ends to refl) added;
      between = λ m at.
          let here : to ≡ m = same_Some to m at in
          subst (λ (k : ℕ). IsBetween (trail_of new.entries.items) (seen_of new.sets.items new.entries.items) k younger)
          here
          (subst (IsBetween (trail_of new.entries.items) (seen_of new.sets.items new.entries.items) to) (sym value)
          (added_between view start block old new is from to inside edge (ends to refl) added));
    }

-- what lay between entries still does
pub between_extended : (view : View) (start : Start) (block : ℕ) (old new : Search) (n : ℕ) (younger : Option (List ℕ))
    → IsSearch view start block old → Extends old new
    → IsBetween (trail_of old.entries.items) (seen_of old.sets.items old.entries.items) n younger
    → IsBetween (trail_of new.entries.items) (seen_of new.sets.items new.entries.items) n younger
between_extended view start block old new n younger is extends between =
    between_kept (trail_of old.entries.items) (trail_of new.entries.items) (seen_of old.sets.items old.entries.items)
    (seen_of new.sets.items new.entries.items) n younger
    is.course.one_each extends.trail extends.seen between
