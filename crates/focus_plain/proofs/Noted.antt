-- Entries noted for their nodes.
use Rattle.std.proofs.Common.{◌≡◌, ◌≢◌, ℕ, ◌+◌, ◌<◌, inl, inr, Bool, true, false, List, length, get_or, Option, Some, None, refl, sym, ap, subst, ◌∙◌, arith}
use Rattle.std.proofs.lemmas.Bool.{cases_eq}
use Rattle.std.proofs.lemmas.List.{get_or-set_same, get_or-set_other, length-set, set-get_or}
use Rattle.std.proofs.lemmas.Option.{same_Some, none-some}
use Rattle.std.specs.Option.{is_some}
use Rattle.std.specs.Prelude.{slice_get, slice_set}
use Rattle.path_trail.specs.Trail.{node_at}
use Rattle.focus_plain.specs.declared.search.Entry.{Entry}
use Rattle.focus_plain.specs.Entries.{trail_of, latest_at, index_of}
use Rattle.focus_plain.specs.Ends.{AreEnds, IsNoted}

-- what tests as absent is absent
pub none_there : (o : Option ℕ) → is_some o ≡ false → o ≡ None
none_there None is = refl
none_there (Some x) is = absurd (cc)

-- what doesn't is there
pub some_there : (o : Option ℕ) → is_some o ≡ true → (x : ℕ) × (o ≡ Some x)
some_there None is = absurd (cc)
some_there (Some x) is = (x, refl)

-- the first entry of a node
pub noted_new : (ends : List (Option ℕ)) (node number : ℕ) → node < length ends → get_or ends node None ≡ None
    → IsNoted ends (slice_set ends node (Some number)) node number
noted_new ends node number inside none = record {
  as_long = length-set ends node (Some number);
  only = λ n other found. elim (cases_eq n node) [
    | inl same ↦
        let here : latest_at (slice_set ends node (Some number)) n
        ≡ Some number = ap (latest_at (slice_set ends node (Some number))) same
        ∙ get_or-set_same ends node (Some number) None inside in
        inr (same, same_Some other number (sym found ∙ here))
    | inr apart ↦ inl (sym (get_or-set_other ends node n (Some number) None apart) ∙ found)
  ];
  kept = λ n other found. elim (cases_eq n node) [
    | inl same ↦ absurd (none-some other (sym none ∙ sym (ap (latest_at ends) same) ∙ found))
    | inr apart ↦ get_or-set_other ends node n (Some number) None apart ∙ found
  ];
  there = (number, get_or-set_same ends node (Some number) None inside);
}

-- another entry of a node
pub noted_same : (ends : List (Option ℕ)) (node number first : ℕ) → get_or ends node None ≡ Some first
    → IsNoted ends (slice_set ends node (get_or ends node None)) node number
noted_same ends node number first found =
    subst (λ (new : List (Option ℕ)). IsNoted ends new node number) (sym (set-get_or ends node None)) (record {
      as_long = refl;
      only = λ n other is. inl is;
      kept = λ n other is. is;
      there = (first, found);
    })

-- one entry more, which is noted
pub ends_noted : (entries : List Entry) (index : ℕ) (small : Bool) (old new : List (Option ℕ))
    → AreEnds entries index small old
    → is_some (index_of (slice_get entries index)) ≡ small → IsNoted old new (node_at (trail_of entries) index) index
    → AreEnds entries (index + 1) small new
ends_noted entries index small old new ends same noted = record {
  sound = λ n number found. elim (noted.only n number found) [
    | inl before ↦
        let is = ends.sound n number before in
        (omega (arith, is.0), is.1, is.2)
    | inr now ↦ (
      omega (arith, now.1),
      ap (node_at (trail_of entries)) now.1 ∙ sym now.0,
      ap (λ (k : ℕ). is_some (index_of (slice_get entries k))) now.1 ∙ same,
    )
  ];
  complete = λ number below is. elim (cases_eq index number) [
    | inl last ↦ subst (λ (k : ℕ). (other : ℕ) × (latest_at new (node_at (trail_of entries) k) ≡ Some other)) last
        noted.there
    | inr before ↦
        let there = ends.complete number (omega arith) is in
        (there.0, noted.kept (node_at (trail_of entries) number) there.0 there.1)
  ];
}

-- one entry more, which is passed over
pub ends_passed : (entries : List Entry) (index : ℕ) (small : Bool) (ends : List (Option ℕ))
    → AreEnds entries index small ends
    → is_some (index_of (slice_get entries index)) ≢ small → AreEnds entries (index + 1) small ends
ends_passed entries index small ends are other = record {
  sound = λ n number found.
      let is = are.sound n number found in
      (omega (arith, is.0), is.1, is.2);
  complete = λ number below is. elim (cases_eq index number) [
    | inl last ↦ absurd (other (ap (λ (k : ℕ). is_some (index_of (slice_get entries k))) last ∙ is))
    | inr before ↦ are.complete number (omega arith) is
  ];
}
