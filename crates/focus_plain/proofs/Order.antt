-- The order of younger sets, and that nodes keep it.
use Rattle.std.proofs.Common.{◌≡◌, ℕ, ◌<◌, ◌≤◌, inl, inr, eqb, ltb, List, [], ◌∷◌, length, Option, Some, None, option_map, map, refl, sym, ap, subst, ◌∙◌, arith}
use Rattle.std.specs.Option.{is_some}
use Rattle.std.proofs.lemmas.Bool.{cases_Bool, cases_lt}
use Rattle.std.proofs.lemmas.Bool.Decides.{nat_tests}
use Rattle.std.specs.List.Sorted.{IsStrictlyIncreasing}
use Rattle.set_list.specs.SetList.{IsSubset}
use Rattle.cache_spec.specs.declared.start.Start.{Start}
use Rattle.cache_spec.specs.declared.start.Start.TheVariants.{Empty, Any}
use Rattle.focus_spec.specs.Younger.{with_number, after, after_all, is_small, fetch_at}
use Rattle.set_list.specs.RisingSets.{rising-empty, subset-short}
use Rattle.focus_spec.proofs.WithNumber.{Contains-with_number, rising-with_number}
use Rattle.set_view.specs.View.{View}
use Rattle.focus_plain.specs.Cut.{cut, IsBelow, IsFirst, left_by, cut_after}

-- a younger set rises, if it is there
abbrev pub IsRising : Option (List ℕ) → Type 0
IsRising None = Unit {0}
IsRising (Some set) = IsStrictlyIncreasing set

-- everything is below itself
pub below_refl : (younger : Option (List ℕ)) → IsBelow younger younger
below_refl None = tt
below_refl (Some set) = λ x there. there

-- the order goes on
pub below_trans : (one two three : Option (List ℕ)) → IsBelow one two → IsBelow two three → IsBelow one three
below_trans one two None below on = tt
below_trans one None (Some three) below on = absurd on
below_trans None (Some two) (Some three) below on = absurd below
below_trans (Some one) (Some two) (Some three) below on = λ x there. on x (below x there)

-- a small set is kept, and a large one is not
pub cut-small : (ways : ℕ) (set : List ℕ) → length set < ways → cut ways (Some set) ≡ Some set
cut-small ways set small = grind (arith, nat_tests)

pub cut-large : (ways : ℕ) (set : List ℕ) → ways ≤ length set → cut ways (Some set) ≡ None
cut-large ways set large = grind (arith, nat_tests)

-- it is cut once
pub cut-cut : (ways : ℕ) (younger : Option (List ℕ)) → cut ways (cut ways younger) ≡ cut ways younger
cut-cut ways None = refl
cut-cut ways (Some set) = elim (cases_lt (length set) ways) [
  | inl small ↦ ap (cut ways) (cut-small ways set small)
  | inr large ↦ ap (cut ways) (cut-large ways set large) ∙ sym (cut-large ways set large)
]

-- a cut set rises as the set does
pub cut-rising : (ways : ℕ) (younger : Option (List ℕ)) → IsRising younger → IsRising (cut ways younger)
cut-rising ways None rising = tt
cut-rising ways (Some set) rising = elim (cases_lt (length set) ways) [
  | inl small ↦ subst IsRising (sym (cut-small ways set small)) rising
  | inr large ↦ subst IsRising (sym (cut-large ways set large)) tt
]

-- a cut keeps the order
cut-below : (ways : ℕ) (one two : Option (List ℕ)) → IsRising one → IsRising two → IsBelow one two
    → IsBelow (cut ways one) (cut ways two)
cut-below ways one None rising two_rising below = tt
cut-below ways None (Some two) rising two_rising below = absurd below
cut-below ways (Some one) (Some two) rising two_rising below = elim (cases_lt (length two) ways) [
  | inl small ↦
      let short = subset-short one two rising two_rising below in
      subst (IsBelow (cut ways (Some one))) (sym (cut-small ways two small))
      (subst (λ (younger : Option (List ℕ)). IsBelow younger (Some two)) (sym (cut-small ways one (omega arith))) below)
  | inr large ↦ subst (IsBelow (cut ways (Some one))) (sym (cut-large ways two large)) tt
]

-- with one more number the order stays
with_number-within : (x : ℕ) (one two : List ℕ) → IsSubset one two → IsSubset (with_number x one) (with_number x two)
with_number-within x one two within =
    λ y there. (Contains-with_number x two y).1 (elim ((Contains-with_number x one y).0 there) [
      | inl old ↦ inl (within y old)
      | inr new ↦ inr new
    ])

-- one more fetch keeps the order
after-below : (block : ℕ) (fetch : Option ℕ) (one two : Option (List ℕ)) → IsBelow one two
    → IsBelow (after block fetch one) (after block fetch two)
after-below block None one two below = below
after-below block (Some other) one two below = elim (cases_Bool (eqb other block)) [
  | inl own ↦ rw own (λ x there. there)
  | inr others ↦ rw others (added one two below)
]
  where
    added : (one two : Option (List ℕ)) → IsBelow one two
        → IsBelow (option_map (with_number other) one) (option_map (with_number other) two)
    added one None below = tt
    added None (Some two) below = absurd below
    added (Some one) (Some two) below = with_number-within other one two below

-- one more fetch leaves a set that rises
pub after-rising : (block : ℕ) (fetch : Option ℕ) (younger : Option (List ℕ)) → IsRising younger
    → IsRising (after block fetch younger)
after-rising block None younger rising = rising
after-rising block (Some other) younger rising = elim (cases_Bool (eqb other block)) [
  | inl own ↦ rw own rising-empty
  | inr others ↦ rw others (added younger rising)
]
  where
    added : (younger : Option (List ℕ)) → IsRising younger → IsRising (option_map (with_number other) younger)
    added None rising = tt
    added (Some set) rising = rising-with_number other set rising

-- so do more fetches
pub all-rising : (block : ℕ) (fetches : List (Option ℕ)) (first : Option (List ℕ)) → IsRising first
    → IsRising (after_all block fetches first)
all-rising block [] first rising = rising
all-rising block (fetch ∷ earlier) first rising =
    after-rising block fetch (after_all block earlier first) (all-rising block earlier first rising)

-- they keep the order
all-below : (block : ℕ) (fetches : List (Option ℕ)) (one two : Option (List ℕ)) → IsBelow one two
    → IsBelow (after_all block fetches one) (after_all block fetches two)
all-below block [] one two below = below
all-below block (fetch ∷ earlier) one two below =
    after-below block fetch (after_all block earlier one) (after_all block earlier two)
    (all-below block earlier one two below)

-- what is there before the first fetch rises
pub first-rising : (start : Start) (first : Option (List ℕ)) → IsFirst start first → IsRising first
first-rising start first (inl none) = subst IsRising (sym none) tt
first-rising Empty first (inr none) = subst IsRising (sym none) tt
first-rising Any first (inr empty) = subst IsRising (sym empty) rising-empty

-- what a path leaves rises
pub left_by-rising : (view : View) (block : ℕ) (first : Option (List ℕ)) (members : List ℕ) → IsRising first
    → IsRising (left_by view block first members)
left_by-rising view block first members rising =
    let fetches = map (fetch_at view.fetches) members in
    cut-rising view.geometry.ways (after_all block fetches first) (all-rising block fetches first rising)

-- from no younger set it leaves what lies above all that it leaves else
pub left_by-below : (view : View) (block : ℕ) (first : Option (List ℕ)) (members : List ℕ) → IsRising first
    → IsBelow (left_by view block first members) (left_by view block None members)
left_by-below view block first members rising =
    let fetches = map (fetch_at view.fetches) members in
    cut-below view.geometry.ways (after_all block fetches first) (after_all block fetches None)
    (all-rising block fetches first rising) (all-rising block fetches None tt) (all-below block fetches first None tt)

-- a node keeps the order
pub cut_after-below : (view : View) (block n : ℕ) (one two : Option (List ℕ)) → IsRising one → IsRising two
    → IsBelow one two
    → IsBelow (cut_after view block n one) (cut_after view block n two)
cut_after-below view block n one two rising two_rising below =
    let fetch : Option ℕ = fetch_at view.fetches n in
    cut-below view.geometry.ways (after block fetch one) (after block fetch two) (after-rising block fetch one rising)
    (after-rising block fetch two two_rising)
    (after-below block fetch one two below)

-- one number more doesn't make a set shorter
longer : (x : ℕ) (set : List ℕ) → IsStrictlyIncreasing set → length set ≤ length (with_number x set)
longer x set rising = subset-short set (with_number x set) rising (rising-with_number x set rising)
    (λ y there. (Contains-with_number x set y).1 (inl there))

-- what is cut off before a fetch is cut off after it
cut-after : (ways block : ℕ) (fetch : Option ℕ) (younger : Option (List ℕ)) → IsRising younger
    → cut ways (after block fetch (cut ways younger)) ≡ cut ways (after block fetch younger)
cut-after ways block None younger rising = cut-cut ways younger
cut-after ways block (Some other) None rising = refl
cut-after ways block (Some other) (Some set) rising = elim (cases_lt (length set) ways) [
  | inl small ↦ ap (λ younger. cut ways (after block (Some other) younger)) (cut-small ways set small)
  | inr large ↦ ap (λ younger. cut ways (after block (Some other) younger)) (cut-large ways set large)
      ∙ elim (cases_Bool (eqb other block)) [
        | inl own ↦ rw own refl
        | inr others ↦ rw others (sym (cut-large ways (with_number other set)
            (let more = longer other set rising in omega arith)))
      ]
]

-- one member further
pub left_by-more : (view : View) (block n : ℕ) (first : Option (List ℕ)) (members : List ℕ) → IsRising first
    → left_by view block first (n ∷ members) ≡ cut_after view block n (left_by view block first members)
left_by-more view block n first members rising =
    let fetches = map (fetch_at view.fetches) members in
    sym (cut-after view.geometry.ways block (fetch_at view.fetches n) (after_all block fetches first)
    (all-rising block fetches first rising))

-- a younger set is small where it is not cut off
pub small-cut : (ways : ℕ) (younger : Option (List ℕ)) → is_small ways younger ≡ is_some (cut ways younger)
small-cut ways None = refl
small-cut ways (Some set) = elim (cases_Bool (ltb (length set) ways))
    [ inl small ↦ rw small refl | inr large ↦ rw large refl ]
