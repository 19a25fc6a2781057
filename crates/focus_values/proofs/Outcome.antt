-- What is moved along a path stands for the warm set and the younger set that the path leaves.
use Rattle.std.proofs.Common.{◌≡◌, ℕ, ◌<◌, ◌≤◌, ◌⊎◌, Bool, cond, List, [], ◌∷◌, length, map, eqb, ltb, Option, Some, None, Contains, inl, inr, refl, sym, subst, ap, ◌∙◌, arith}
use Rattle.std.proofs.lemmas.Bool.{cases_eq, cases_lt, cond-false, ne_eqb, lt-ltb, le-ltb}
use Rattle.std.specs.Prelude.{IsFalse}
use Rattle.std.specs.List.Sorted.{IsStrictlyIncreasing}
use Rattle.std.specs.Option.{option_map, option_to_list}
use Rattle.cache_spec.specs.declared.start.Start.{Start}
use Rattle.cache_spec.specs.declared.start.Start.TheVariants.{Empty, Any}
use Rattle.focus_spec.proofs.Renamed.{after-own}
use Rattle.lattice_fix.specs.Along.{along}
use Rattle.set_list.specs.SetList.{IsSubset}
use Rattle.set_list.specs.Rising.{Contains-cons}
use Rattle.set_list.specs.RisingSets.{subset-short}
use Rattle.plain_family.specs.Family.{IsWith}
use Rattle.plain_family.proofs.Smaller.{IsWith-unique}
use Rattle.focus_spec.specs.Younger.{with_number, after, after_all, first_warm, is_small, fetch_at}
use Rattle.focus_spec.specs.Focus.{younger_after, warm_after}
use Rattle.focus_spec.proofs.WithNumber.{Contains-with_number, rising-with_number}
use Rattle.focus_values.specs.Marks.{Setting, Mark, marks_of, framework_of}
use Rattle.focus_values.specs.MarkLaws.{marks_within}
use Rattle.focus_values.specs.Families.{AreFit, IsLeastAfter, AreMostAfter, IsMostAfter}
use Rattle.focus_values.proofs.Small.{set_from, with_is}
use Rattle.focus_values.proofs.Moved.{moved_by, marks-after}
use Rattle.focus_values.proofs.Kept.{marks-begin, marks-fresh, marks-still}
use Rattle.focus_values.proofs.Fit.{none_lowest, one_set, fit-none, fit-one, fit-both}

-- the least sets of one warm set: none where it is large or not there
abbrev pub least_one : ℕ → Option (List ℕ) → List (List ℕ)
least_one ways None = []
least_one ways (Some set) = cond (ltb (length set) ways) (set ∷ []) []

-- the most sets of one younger set are absent where it is large or not there
abbrev pub most_one : ℕ → Option (List ℕ) → Option (List (List ℕ))
most_one ways None = None
most_one ways (Some set) = cond (ltb (length set) ways) (Some (set ∷ [])) None

-- a set is small, and the families of one set have it
pub record IsAlone (ways : ℕ) (y : Option (List ℕ)) (set : List ℕ) : Type 0 where
  pub is : y ≡ Some set
  pub few : length set < ways
  pub least : least_one ways y ≡ set ∷ []
  pub most : most_one ways y ≡ Some (set ∷ [])

-- a set is large or not there, and the families of one set have none
pub record IsLost (ways : ℕ) (y : Option (List ℕ)) : Type 0 where
  pub large : IsFalse (is_small ways y)
  pub least : least_one ways y ≡ []
  pub most : most_one ways y ≡ None

-- a small set is alone
pub small-alone : (ways : ℕ) (set : List ℕ) → length set < ways → IsAlone ways (Some set) set
small-alone ways set few = record {
  is = refl;
  few = few;
  least = ap (λ (b : Bool). cond b (set ∷ []) []) (lt-ltb (length set) ways few);
  most = ap (λ (b : Bool). cond b (Some (set ∷ [])) None) (lt-ltb (length set) ways few);
}

-- a large set is lost
pub large-lost : (ways : ℕ) (set : List ℕ) → ways ≤ length set → IsLost ways (Some set)
large-lost ways set many = record {
  large = le-ltb (length set) ways many;
  least = ap (λ (b : Bool). cond b (set ∷ []) []) (le-ltb (length set) ways many);
  most = ap (λ (b : Bool). cond b (Some (set ∷ [])) None) (le-ltb (length set) ways many);
}

-- so is one that is not there
pub none-lost : (ways : ℕ) → IsLost ways None
none-lost ways = record { large = refl; least = refl; most = refl }

-- each set is the one or the other
pub alone_or_lost : (ways : ℕ) (y : Option (List ℕ)) → ((set : List ℕ) × IsAlone ways y set) ⊎ IsLost ways y
alone_or_lost ways None = inr (none-lost ways)
alone_or_lost ways (Some set) = elim (cases_lt (length set) ways) [
  | inl few ↦ inl (set, small-alone ways set few)
  | inr many ↦ inr (large-lost ways set many)
]

-- what holds of the family of a small set alone holds of the set's least and most sets
pub of_alone : (ways : ℕ) (y : Option (List ℕ)) (set : List ℕ) → IsAlone ways y set
    → (P : List (List ℕ) → Option (List (List ℕ)) → Type 0) → P (set ∷ []) (Some (set ∷ []))
    → P (least_one ways y) (most_one ways y)
of_alone ways y set alone P holds =
    subst (λ (least : List (List ℕ)). P least (most_one ways y)) (sym alone.least)
    (subst (P (set ∷ [])) (sym alone.most) holds)

-- and what holds of no sets holds of those of one that is large or not there
pub of_lost : (ways : ℕ) (y : Option (List ℕ)) → IsLost ways y
    → (P : List (List ℕ) → Option (List (List ℕ)) → Type 0) → P [] None → P (least_one ways y) (most_one ways y)
of_lost ways y lost P holds =
    subst (λ (least : List (List ℕ)). P least (most_one ways y)) (sym lost.least)
    (subst (P []) (sym lost.most) holds)

-- the marks of a warm set and a younger set
abbrev pub marks_two : Setting → Option (List ℕ) → Option (List ℕ) → Mark → Bool
marks_two g w y = marks_of g (least_one g.ways w) (most_one g.ways y)

-- a warm set, or a younger one, has local numbers that rise
pub record IsLocal (g : Setting) (set : List ℕ) : Type 0 where
  pub rising : IsStrictlyIncreasing set
  pub within : (x : ℕ) → Contains set x → x < g.count

-- if it is there
abbrev pub AreLocal : Setting → Option (List ℕ) → Type 0
AreLocal g None = Unit {0}
AreLocal g (Some set) = IsLocal g set

-- the nodes fetch local numbers
abbrev pub AreWithin : Setting → Type 0
AreWithin g = (n local : ℕ) → fetch_at g.fetches n ≡ Some local → local < g.count

-- one more number is local where it is below the count
with-local : (g : Setting) (other : ℕ) (set : List ℕ) → other < g.count → IsLocal g set
    → IsLocal g (with_number other set)
with-local g other set below is = record {
  rising = rising-with_number other set is.rising;
  within = λ x there. elim ((Contains-with_number other set x).0 there) [
    | inl old ↦ is.within x old
    | inr new ↦ omega
        (arith, new, below)
  ];
}

-- a set, if it is there, with another block
abbrev pub grown : ℕ → Option (List ℕ) → Option (List ℕ)
grown other y = option_map (with_number other) y

-- a fetch of another block adds that one
after_other : (block other : ℕ) (y : Option (List ℕ)) → (other ≡ block → ⊥) → after block (Some other) y ≡ grown other y
after_other block other y apart = cond-false (eqb other block) (Some []) (grown other y) (ne_eqb other block apart)

-- it stays local
grown-local : (g : Setting) (other : ℕ) (y : Option (List ℕ)) → other < g.count → AreLocal g y
    → AreLocal g (grown other y)
grown-local g other None below is = tt
grown-local g other (Some set) below is = with-local g other set below is

-- the empty set is local
empty-local : (g : Setting) → IsLocal g []
empty-local g = record {
  rising = λ k inside. absurd (omega (arith, inside));
  within = λ x there. absurd
      (omega (arith, there.1));
}

-- so a fetch leaves a local set local
after-local : (g : Setting) (fetch : Option ℕ) (set : Option (List ℕ))
    → ((local : ℕ) → fetch ≡ Some local → local < g.count) → AreLocal g set → AreLocal g (after g.block fetch set)
after-local g None set below is = is
after-local g (Some other) set below is = elim (cases_eq other g.block) [
  | inl same ↦ subst (AreLocal g) (sym (after-own g.block other set same)) (empty-local g)
  | inr apart ↦ subst (AreLocal g) (sym (after_other g.block other set apart))
      (grown-local g other set (below other refl) is)
]

-- what the members of a path leave of a set that is there before the first fetch
abbrev pub left_of : Setting → Option (List ℕ) → List ℕ → Option (List ℕ)
left_of g first members = after_all g.block (map (fetch_at g.fetches) members) first

-- it is local where that set is
pub left_of-local : (g : Setting) → AreWithin g → (first : Option (List ℕ)) → AreLocal g first → (members : List ℕ)
    → AreLocal g (left_of g first members)
left_of-local g within first is [] = is
left_of-local g within first is (n ∷ earlier) = after-local g (fetch_at g.fetches n) (left_of g first earlier)
    (within n) (left_of-local g within first is earlier)

-- the warm set before the first fetch is local
pub first-local : (g : Setting) (start : Start) → AreLocal g (first_warm start)
first-local g Empty = tt
first-local g Any = empty-local g

-- its least sets are that set alone, where it is there
first-alone : (ways : ℕ) (start : Start) → 0 < ways → least_one ways (first_warm start)
    ≡ option_to_list (first_warm start)
first-alone ways Empty some = refl
first-alone ways Any some = (small-alone ways [] some).least

-- a set in a family of one
pub only : (set : List ℕ) → Contains (set ∷ []) set
only set = (Contains-cons set [] set).1 (inr refl)

-- a set with a number more, of a family of one
with-one : (other : ℕ) (set t s : List ℕ) → IsStrictlyIncreasing set → Contains (set ∷ []) t → IsWith other t s
    → s ≡ with_number other set
with-one other set t s up there is =
    let same = one_set t set there in
    IsWith-unique other set s (with_number other set) (subst (λ (u : List ℕ). IsWith other u s) same is)
    (with_is other set up)

-- a family of one small set, where it stays small
least-small : (other ways : ℕ) (set : List ℕ) → IsStrictlyIncreasing set → length (with_number other set) < ways
    → IsLeastAfter other ways (set ∷ []) (with_number other set ∷ [])
least-small other ways set up few =
    let new : List ℕ = with_number other set in
    record {
      comes = λ s there. (
        set,
        only set,
        subst (λ (u : List ℕ). IsWith other set u) (sym (one_set s new there))
            (with_is other set up),
      );
      small = λ s there. subst (λ (u : List ℕ). length u < ways) (sym (one_set s new there)) few;
      covers = λ t s there is less. (
        new,
        only new,
        subst (λ (u : List ℕ). IsSubset u s)
            (with-one other set t s up there is) (λ x has. has),
      );
      lowest = λ s there t more subset. one_set t new more ∙ sym (one_set s new there);
    }

-- the same of the most
most-small : (other ways : ℕ) (set : List ℕ) → IsStrictlyIncreasing set → length (with_number other set) < ways
    → AreMostAfter other ways (set ∷ []) (with_number other set ∷ [])
most-small other ways set up few =
    let new : List ℕ = with_number other set in
    record {
      comes = λ s there. (
        set,
        only set,
        subst (λ (u : List ℕ). IsWith other set u) (sym (one_set s new there))
            (with_is other set up),
      );
      small = λ t s there is. subst (λ (u : List ℕ). length u < ways) (sym (with-one other set t s up there is)) few;
      covers = λ t s there is. (
        new,
        only new,
        subst (λ (u : List ℕ). IsSubset s u)
            (with-one other set t s up there is) (λ x has. has),
      );
      highest = λ s there t more subset. one_set t new more ∙ sym (one_set s new there);
    }

-- and where it gets large
least-large : (other ways : ℕ) (set : List ℕ) → IsStrictlyIncreasing set → ways ≤ length (with_number other set)
    → IsLeastAfter other ways (set ∷ []) []
least-large other ways set up many = record {
  comes = λ s there. absurd (omega (arith, there.1));
  small = λ s there. absurd (omega (arith, there.1));
  covers = λ t s there is less. absurd (omega (arith, less, many, ap length (with-one other set t s up there is)));
  lowest = none_lowest;
}

-- no set gets none
least-none : (other ways : ℕ) → IsLeastAfter other ways [] []
least-none other ways = record {
  comes = λ s there. absurd (omega (arith, there.1));
  small = λ s there. absurd (omega (arith, there.1));
  covers = λ t s there is less. absurd (omega (arith, there.1));
  lowest = none_lowest;
}

-- a large set stays large
still-large : (other ways : ℕ) (set : List ℕ) → IsStrictlyIncreasing set → ways ≤ length set
    → ways ≤ length (with_number other set)
still-large other ways set up many =
    let long = subset-short set (with_number other set) up (rising-with_number other set up)
    (λ x has. (Contains-with_number other set x).1 (inl has)) in
    omega (arith, long, many)

-- what a fetch of another block makes of the families
abbrev AreNext : Setting → ℕ → List (List ℕ) → Option (List (List ℕ)) → List (List ℕ) → Option (List (List ℕ)) → Type 0
AreNext g other least most less more = IsLeastAfter other g.ways least less × IsMostAfter other g.ways most more

-- no sets stay none
none-next : (g : Setting) (other : ℕ) → AreNext g other [] None [] None
none-next g other = (least-none other g.ways, tt)

-- the families of one small set become those of the set with the other block
small-next : (g : Setting) (other : ℕ) (set : List ℕ) → IsStrictlyIncreasing set
    → (let new = Some (with_number other set) in
    AreNext g other (set ∷ []) (Some (set ∷ [])) (least_one g.ways new) (most_one g.ways new))
small-next g other set up =
    let new : List ℕ = with_number other set in
    let next = AreNext g other (set ∷ []) (Some (set ∷ [])) in
    elim (cases_lt (length new) g.ways) [
      | inl less ↦ of_alone g.ways (Some new) new (small-alone g.ways new less) next
          (least-small other g.ways set up less, most-small other g.ways set up less)
      | inr more ↦ of_lost g.ways (Some new) (large-lost g.ways new more) next
          (least-large other g.ways set up more, (set, new, only set, with_is other set up, more))
    ]

-- so do those of any local set, or of none
one-grown : (g : Setting) (other : ℕ) (y : Option (List ℕ)) → AreLocal g y
    → AreNext g other (least_one g.ways y) (most_one g.ways y) (least_one g.ways (grown other y))
    (most_one g.ways (grown other y))
one-grown g other None is = none-next g other
one-grown g other (Some set) is =
    let new : List ℕ = with_number other set in
    let before = λ (least : List (List ℕ)) (most : Option (List (List ℕ))).
    AreNext g other least most (least_one g.ways (Some new)) (most_one g.ways (Some new)) in
    elim (cases_lt (length set) g.ways) [
      | inl few ↦ of_alone g.ways (Some set) set (small-alone g.ways set few) before
          (small-next g other set is.rising)
      | inr many ↦
          let large = large-lost g.ways new (still-large other g.ways set is.rising many) in
          of_lost g.ways (Some set) (large-lost g.ways set many) before
          (of_lost g.ways (Some new) large (AreNext g other [] None) (none-next g other))
    ]

-- the families of one local set are fit
one-fit : (g : Setting) (y : Option (List ℕ)) → AreLocal g y → AreFit g (least_one g.ways y) (most_one g.ways y)
one-fit g None is = fit-none g
one-fit g (Some set) is = elim (cases_lt (length set) g.ways) [
  | inl few ↦ of_alone g.ways (Some set) set (small-alone g.ways set few) (AreFit g)
      (fit-one g set (set_from g set is.rising is.within few))
  | inr many ↦ of_lost g.ways (Some set) (large-lost g.ways set many) (AreFit g) (fit-none g)
]

-- what a fetch of another block makes of the marks of both
two-grown : (g : Setting) (other : ℕ) (w y : Option (List ℕ)) → (other ≡ g.block → ⊥) → AreLocal g w → AreLocal g y
    → moved_by g (Some other) (marks_two g w y) ≡ marks_two g (grown other w) (grown other y)
two-grown g other w y apart w_is y_is =
    let fit = fit-both g (least_one g.ways w) (least_one g.ways y) (most_one g.ways w) (most_one g.ways y)
    (one-fit g w w_is) (one-fit g y y_is) in
    sym (marks-after g other (least_one g.ways w) (least_one g.ways (grown other w)) (most_one g.ways y)
    (most_one g.ways (grown other y)) apart fit (one-grown g other w w_is).0 (one-grown g other y y_is).1)

-- the empty set stands for itself
two-fresh : (g : Setting) → 0 < g.ways → marks_of g ([] ∷ []) (Some ([] ∷ [])) ≡ marks_two g (Some []) (Some [])
two-fresh g some = of_alone g.ways (Some []) [] (small-alone g.ways [] some)
    (λ least most. marks_of g ([] ∷ []) (Some ([] ∷ [])) ≡ marks_of g least most) refl

-- what a fetch makes of the marks of both
two-moves : (g : Setting) (fetch : Option ℕ) (w y : Option (List ℕ)) → 0 < g.ways → AreLocal g w → AreLocal g y
    → moved_by g fetch (marks_two g w y) ≡ marks_two g (after g.block fetch w) (after g.block fetch y)
two-moves g None w y some w_is y_is = sym (marks-still g (marks_two g w y)
    (marks_within g (least_one g.ways w) (most_one g.ways y)))
two-moves g (Some other) w y some w_is y_is = elim (cases_eq other g.block) [
  | inl same ↦
      sym (marks-fresh g other (marks_two g w y) same)
      ∙ (two-fresh g some
      ∙ (ap (λ (t : Option (List ℕ)). marks_two g t (Some [])) (sym (after-own g.block other w same))
      ∙ ap (marks_two g (after g.block (Some other) w)) (sym (after-own g.block other y same))))
  | inr apart ↦
      two-grown g other w y apart w_is y_is
      ∙ (ap (λ (t : Option (List ℕ)). marks_two g t (grown other y)) (sym (after_other g.block other w apart))
      ∙ ap (marks_two g (after g.block (Some other) w)) (sym (after_other g.block other y apart)))
]

-- the marks of the warm set and the younger set that a path leaves
abbrev pub marks_left : Setting → List ℕ → Mark → Bool
marks_left g earlier = marks_two g (warm_after g.fetches g.start g.block earlier)
    (younger_after g.fetches g.block earlier)

-- what is moved along a path stands for the sets before its last member
pub outcome : (g : Setting) → 0 < g.ways → AreWithin g → (n : ℕ) (earlier : List ℕ)
    → along (framework_of g) (n ∷ earlier) ≡ marks_left g earlier
outcome g some within n [] =
    sym (marks-begin g)
    ∙ ap (λ (least : List (List ℕ)). marks_of g least None) (sym (first-alone g.ways g.start some))
outcome g some within m (n ∷ earlier) =
    let first : Option (List ℕ) = first_warm g.start in
    ap (moved_by g (fetch_at g.fetches n)) (outcome g some within n earlier)
    ∙ two-moves g (fetch_at g.fetches n) (left_of g first earlier) (left_of g None earlier) some
    (left_of-local g within first (first-local g g.start) earlier) (left_of-local g within None tt earlier)
