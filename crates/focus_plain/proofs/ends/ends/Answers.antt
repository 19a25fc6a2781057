use Rattle.std.proofs.Common.{◌≡◌, ℕ, ◌+◌, ◌<◌, Vec, Global, List, Option, Some, None, get_or, length, sym, ap, ◌∙◌, subst, arith}
use Rattle.std.proofs.lemmas.Option.{slice_get-get_or}
use Rattle.std.proofs.lemmas.List.{with_items_is}
use Rattle.std.specs.Option.{is_some}
use Rattle.std.specs.Prelude.{slice_get}
use Rattle.path_trail.specs.Trail.{node_at}
use Rattle.focus_plain.specs.declared.search.Entry.{Entry}
use Rattle.focus_plain.specs.Entries.{trail_of, index_of}
use Rattle.focus_plain.specs.Ends.{AreEnds, IsNoted}
use Rattle.focus_plain.proofs.Links.{node-read}
use Rattle.focus_plain.proofs.Equals.{same_tests, other_tests}
use Rattle.focus_plain.proofs.Noted.{ends_noted, ends_passed}
use Rattle.focus_plain.proofs.ends.ends.Goals as goal
use Rattle.focus_plain.proofs.ends.ends.Goals.{then-is_some-small, else-is_some-small}

-- the entry that is read
abbrev entry_at : List Entry → ℕ → Entry
entry_at entries index = get_or entries index (record { node = 0; younger = None; earlier = None; next = None })

module _ (entries : List Entry) (index : ℕ) (inside : index < length entries) where
  -- it is there
  entry_found : slice_get entries index ≡ Some (entry_at entries index)
  entry_found = slice_get-get_or entries index _ inside

  -- the trail has its node
  node_is : node_at (trail_of entries) index ≡ (entry_at entries index).node
  node_is = node-read entries index (entry_at entries index) entry_found

pub note-requires : goal.note-requires
note-requires c =
    let inside : c.loop-index.index < length c.args.entries.now = omega (arith, c.loop-index-test.true) in
    omega (
      arith,
      c.requires.inside c.loop-index.index inside,
      node_is c.args.entries.now c.loop-index.index inside,
      ap length c.deref_mut.ensures.value,
      c.loop-index.invariant.one_each,
    )

pub loop-index-preserved : goal.loop-index-preserved
loop-index-preserved c =
    let entries = c.args.entries.now in
    let inside : c.loop-index.index < length entries = omega (arith, c.loop-index-test.true) in
    let node : ℕ = (entry_at entries c.loop-index.index).node in
    let there : c.is_some.result ≡ is_some (index_of (slice_get entries c.loop-index.index)) =
    c.is_some.ensures ∙ sym (ap (λ (o : Option Entry). is_some (index_of o))
    (entry_found entries c.loop-index.index inside)) in
    elim c.if-is_some-small.branch [
      | then-is_some-small w ↦
          let as_long : length w.note.new.ends ≡ length c.loop-index.ends.items =
          w.note.ensures.as_long ∙ ap length w.deref_mut.ensures.value in
          let new_is : c.if-is_some-small.ends.items ≡ w.note.new.ends =
          ap (λ (v : Vec (Option ℕ) Global). v.items) w.ends-is
          ∙ with_items_is c.loop-index.ends w.note.new.ends (as_long ∙ sym c.loop-index.ends.ok.0) in
          let noted : IsNoted c.loop-index.ends.items c.if-is_some-small.ends.items
          (node_at (trail_of entries) c.loop-index.index) c.loop-index.index =
          subst (λ (n : ℕ). IsNoted c.loop-index.ends.items c.if-is_some-small.ends.items n c.loop-index.index)
          (sym (node_is entries c.loop-index.index inside))
          (subst (λ (new : List (Option ℕ)). IsNoted c.loop-index.ends.items new node c.loop-index.index)
          (sym new_is)
          (subst (λ (old : List (Option ℕ)). IsNoted old w.note.new.ends node c.loop-index.index)
          w.deref_mut.ensures.value w.note.ensures)) in
          record {
            ends = ends_noted entries c.loop-index.index c.args.small c.loop-index.ends.items
                c.if-is_some-small.ends.items c.loop-index.invariant.ends
                (sym there ∙ same_tests c.is_some.result c.args.small w.if-is_some-small.true) noted;
            one_each = ap length new_is ∙ as_long ∙ c.loop-index.invariant.one_each;
          }
      | else-is_some-small w ↦
          let kept : c.loop-index.ends.items ≡ c.if-is_some-small.ends.items =
          ap (λ (v : Vec (Option ℕ) Global). v.items) (sym w.ends-is) in
          record {
            ends = subst (AreEnds entries (c.loop-index.index + 1) c.args.small) kept
                (ends_passed entries c.loop-index.index c.args.small c.loop-index.ends.items c.loop-index.invariant.ends
                (λ same. other_tests c.is_some.result c.args.small w.if-is_some-small.false (there ∙ same)));
            one_each = sym (ap length kept) ∙ c.loop-index.invariant.one_each;
          }
    ]

pub returns-clause-ends : goal.returns-clause-ends
returns-clause-ends c =
    let all : c.loop-index.index ≡ length c.args.entries.now =
    omega (arith, c.loop-index-test.false, c.loop-index.auto.index-end) in
    subst (λ (k : ℕ). AreEnds c.args.entries.now k c.args.small c.loop-index.ends.items) all c.loop-index.invariant.ends
