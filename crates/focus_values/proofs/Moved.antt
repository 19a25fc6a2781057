-- The families after a fetch of another block stand for the marks that move there.
use Rattle.std.proofs.Common.{◌≡◌, ℕ, ◌+◌, ◌≤◌, Bool, true, ◌&&◌, ◌||◌, not, cond, List, [], ◌∷◌, map, length, ltb, Option, Some, None, Contains, inl, inr, refl, sym, subst, ap, ◌∙◌, arith}
use mathlib.Core.Path.{fun_ext}
use Rattle.std.proofs.lemmas.Bool.{and_parts, and_from, cases_Bool, cases_eq, both_ways, cond-true, cond-false, ltb-true, lt-ltb, not-true, not_from_false, false_from_ne_true, or_cases, or_right, ne_eqb}
use Rattle.std.specs.List.{list_any, filter}
use Rattle.list_lemmas.proofs.Members.{has-map}
use Rattle.set_list.specs.SetList.{IsSubset}
use Rattle.set_list.specs.Rising.{Contains-cons}
use Rattle.plain_family.specs.Family.{IsWith}
use Rattle.set_list.specs.RisingSets.{smaller_or_same, subset-short}
use Rattle.focus_spec.specs.Younger.{with_number}
use Rattle.focus_values.specs.Tests.{same_tests, found_from_any, any_from_found}
use Rattle.focus_values.specs.Sets.{has, without}
use Rattle.focus_values.proofs.SetFacts.{has-true, has_from}
use Rattle.focus_values.specs.Marks.{Setting, Mark, over, under, lost, is_set, is_mark, all_sets, fills, lost_sources, other_sources, sources_of, always_of, is_fresh, marks_of}
use Rattle.focus_values.specs.MarkLaws.{listed}
use Rattle.focus_values.specs.Families.{AreFit, AreSets, sets_in, HasUnder, IsLeastAfter, IsMostAfter}
use Rattle.focus_values.proofs.Small.{set-rising, set-few, Contains-without, Contains-without_from, without-lacks, set-without, with_is, with-length, with-present}
use Rattle.focus_values.proofs.Meaning.{Says, marks-true, marks_from}

-- what a filter keeps
Contains-filter : {X : Type 0} (p : X → Bool) (xs : List X) (x : X) → Contains xs x → p x ≡ true
    → Contains (filter p xs) x
Contains-filter p [] x there passes = there
Contains-filter {X} p (y ∷ ys) x there passes = elim (cases_Bool (p y)) [
  | inl kept ↦ subst (λ (t : List X). Contains t x) (sym (cond-true (p y) (y ∷ filter p ys) (filter p ys) kept))
      (elim ((Contains-cons y ys x).0 there) [
        | inl rest ↦ (Contains-cons y (filter p ys) x).1 (inl (Contains-filter p ys x rest passes))
        | inr first ↦ (Contains-cons y (filter p ys) x).1 (inr first)
      ])
  | inr gone ↦ subst (λ (t : List X). Contains t x) (sym (cond-false (p y) (y ∷ filter p ys) (filter p ys) gone))
      (elim ((Contains-cons y ys x).0 there) [
        | inl rest ↦ Contains-filter p ys x rest passes
        | inr first ↦ absurd (both_ways (p y) gone (sym (ap p first) ∙ passes))
      ])
]

-- what a filter keeps passes its test
filter-passes : {X : Type 0} (p : X → Bool) (xs : List X) (x : X) → Contains (filter p xs) x → p x ≡ true
filter-passes p [] x there = absurd (omega (arith, there.1))
filter-passes {X} p (y ∷ ys) x there = elim (cases_Bool (p y)) [
  | inl kept ↦ elim ((Contains-cons y (filter p ys) x).0
      (subst (λ (t : List X). Contains t x) (cond-true (p y) (y ∷ filter p ys) (filter p ys) kept) there)) [
        | inl rest ↦ filter-passes p ys x rest
        | inr first ↦ ap p first ∙ kept
      ]
  | inr gone ↦ filter-passes p ys x (subst (λ (t : List X). Contains t x)
      (cond-false (p y) (y ∷ filter p ys) (filter p ys) gone) there)
]

-- where an image comes from
map-source : {X Y : Type 0} (f : X → Y) (xs : List X) (y : Y) → Contains (map f xs) y
    → (x : X) × Contains xs x × (y ≡ f x)
map-source f [] y there = absurd (omega (arith, there.1))
map-source f (first ∷ xs) y there = elim ((Contains-cons (f first) (map f xs) y).0 there) [
  | inl rest ↦ let source = map-source f xs y rest in
      (source.0, (Contains-cons first xs source.0).1 (inl source.1), source.2)
  | inr same ↦ (first, (Contains-cons first xs first).1 (inr refl), same)
]

-- a value that is there isn't absent
some_none : {X : Type 0} {x : X} → Some x ≡ None → ⊥
some_none same = cc

-- a set that gets large with a number lacks it and is full
fills_from : (g : Setting) (other : ℕ) (t s : List ℕ) → is_set g t ≡ true → IsWith other t s → g.ways ≤ length s
    → fills g other t ≡ true
fills_from g other t s is grown large =
    let few = set-few g t is in
    let up = set-rising g t is in
    let new : Contains t other → ⊥ = λ there. omega
    (arith, few, large, ap length (with-present other t s up grown there)) in
    let long = with-length other t s up grown new in
    and_from (ltb g.ways (length t + 2)) (not (has t other)) (lt-ltb g.ways (length t + 2) (omega (arith, long, large)))
    (not_from_false (has t other) (false_from_ne_true (has t other) (λ there. new (has-true t other there))))

-- a full set that lacks the number, and all sets that include it, get large with the number
large_from : (g : Setting) (other : ℕ) (t u : List ℕ) → is_set g t ≡ true → is_set g u ≡ true → fills g other t ≡ true
    → IsSubset t u
    → g.ways ≤ length (with_number other u)
large_from g other t u t_is u_is full subset =
    let parts = and_parts (ltb g.ways (length t + 2)) (not (has t other)) full in
    let long = ltb-true g.ways (length t + 2) parts.0 in
    let few = set-few g u u_is in
    elim (smaller_or_same t u (set-rising g t t_is) (set-rising g u u_is) subset) [
      | inl fewer ↦ absurd (omega (arith, long, few, fewer))
      | inr same ↦
          let new : Contains u other → ⊥ = λ there.
          both_ways (has t other) (not-true (has t other) parts.1)
          (has_from t other (subst (λ (s : List ℕ). Contains s other) (sym same) there)) in
          let grown = with-length other u (with_number other u) (set-rising g u u_is)
          (with_is other u (set-rising g u u_is)) new in
          omega (arith, long, grown, ap length same)
    ]

module _ (g : Setting) (other : ℕ) (least : List (List ℕ)) where
  -- the marks before the fetch
  abbrev Before : Option (List (List ℕ)) → Mark → Bool
  Before most = marks_of g least most

  -- where the most younger sets get absent, they were so, or a full set got large
  lost_there : (most : Option (List (List ℕ))) → AreSets g (sets_in most) → IsMostAfter other g.ways most None
      → list_any (Before most) (lost_sources g other) ≡ true
  lost_there None sets is =
      any_from_found (Before None) (lost_sources g other) lost
      ((Contains-cons lost (map under (filter (fills g other) (all_sets g))) lost).1 (inr refl)) refl
  lost_there (Some many) sets is =
      let t_is = sets is.0 is.2 in
      let full = Contains-filter (fills g other) (all_sets g) is.0 (listed g is.0 t_is)
      (fills_from g other is.0 is.1 t_is is.3 is.4) in
      any_from_found (Before (Some many)) (lost_sources g other) (under is.0)
      ((Contains-cons lost (map under (filter (fills g other) (all_sets g))) (under is.0)).1
      (inl (has-map under (filter (fills g other) (all_sets g)) is.0 full)))
      (marks_from g least (Some many) (under is.0) t_is (is.0, is.2, λ x there. there))

  -- and they do get absent there
  lost_back : (most new : Option (List (List ℕ))) → AreSets g (sets_in most) → IsMostAfter other g.ways most new
      → list_any (Before most) (lost_sources g other) ≡ true → new ≡ None
  lost_back None None sets is comes = refl
  lost_back None (Some many) sets is comes = absurd is
  lost_back (Some many) None sets is comes = refl
  lost_back (Some many) (Some new) sets is comes =
      let found = found_from_any (Before (Some many)) (lost_sources g other) comes in
      elim ((Contains-cons lost (map under (filter (fills g other) (all_sets g))) found.0).0 found.1) [
        | inl full ↦
            let source = map-source under (filter (fills g other) (all_sets g)) found.0 full in
            let mark = marks-true g least (Some many) (under source.0)
            (sym (ap (Before (Some many)) source.2) ∙ found.2) in
            let u_is = sets mark.1.0 mark.1.1 in
            let large = large_from g other source.0 mark.1.0 mark.0 u_is
            (filter-passes (fills g other) (all_sets g) source.0 source.1) mark.1.2 in
            let few = is.small mark.1.0 (with_number other mark.1.0) mark.1.1
            (with_is other mark.1.0 (set-rising g mark.1.0 u_is)) in
            absurd (omega (arith, large, few))
        | inr same ↦ absurd ((marks-true g least (Some many) lost (sym (ap (Before (Some many)) same) ∙ found.2)).1)
      ]

  -- a set with the number includes one with it where it included one of the rest
  over_there : (new : List (List ℕ)) (most : Option (List (List ℕ))) (s : List ℕ)
      → IsLeastAfter other g.ways least new → is_set g s ≡ true → HasUnder new s
      → list_any (Before most) (other_sources g other (over s)) ≡ true
  over_there new most s is s_is said =
      let source = is.comes said.0 said.1 in
      let there = has_from s other (said.2 other ((source.2.members other).1 (inr refl))) in
      subst (λ (sources : List Mark). list_any (Before most) sources ≡ true)
      (sym (cond-true (has s other) (over s ∷ []) [] there))
      (any_from_found (Before most) (over s ∷ []) (over s) ((Contains-cons (over s) [] (over s)).1 (inr refl))
      (marks_from g least most (over s) s_is (
        source.0,
        source.1,
        λ x has. said.2 x
            ((source.2.members x).1 (inl has)),
      )))

  -- and only there
  over_back : (new : List (List ℕ)) (most : Option (List (List ℕ))) (s : List ℕ) → AreSets g least
      → IsLeastAfter other g.ways least new → is_set g s ≡ true
      → list_any (Before most) (other_sources g other (over s)) ≡ true → HasUnder new s
  over_back new most s sets is s_is comes = elim (cases_Bool (has s other)) [
    | inl there ↦
        let found = found_from_any (Before most) (over s ∷ [])
        (subst (λ (sources : List Mark). list_any (Before most) sources ≡ true)
        (cond-true (has s other) (over s ∷ []) [] there) comes) in
        elim ((Contains-cons (over s) [] found.0).0 found.1) [
          | inl none ↦ absurd (omega (arith, none.1))
          | inr same ↦
              let mark = marks-true g least most (over s) (sym (ap (Before most) same) ∙ found.2) in
              let t : List ℕ = mark.1.0 in
              let t_up = set-rising g t (sets t mark.1.1) in
              let grown = with_is other t t_up in
              let inside : IsSubset (with_number other t) s = λ x has. elim ((grown.members x).0 has) [
                | inl old ↦ mark.1.2 x old
                | inr new ↦ subst (Contains s) (sym new) (has-true s other there)
              ] in
              let short = subset-short (with_number other t) s grown.rising (set-rising g s s_is) inside in
              let covered = is.covers t (with_number other t) mark.1.1 grown (omega (arith, short, set-few g s s_is)) in
              (covered.0, covered.1, λ x has. inside x (covered.2 x has))
        ]
    | inr lacks ↦
        let found = found_from_any (Before most) []
        (subst (λ (sources : List Mark). list_any (Before most) sources ≡ true)
        (cond-false (has s other) (over s ∷ []) [] lacks) comes) in
        absurd (omega (arith, found.1.1))
  ]

  -- a set is in one with the number where the rest was in one of the old ones
  under_there : (most new : Option (List (List ℕ))) (s : List ℕ) → AreSets g (sets_in most)
      → IsMostAfter other g.ways most new → is_set g s ≡ true → Says least new (under s)
      → list_any (Before most) (other_sources g other (under s)) ≡ true
  under_there most None s sets is s_is said = or_right (Before most (under (without other s)))
      (list_any (Before most) (lost_sources g other)) (lost_there most sets is)
  under_there None (Some new) s sets is s_is said = absurd is
  under_there (Some many) (Some new) s sets is s_is said =
      let source = is.comes said.0 said.1 in
      any_from_found (Before (Some many)) (other_sources g other (under s)) (under (without other s))
      ((Contains-cons (under (without other s)) (lost_sources g other) (under (without other s))).1 (inr refl))
      (marks_from g least (Some many) (under (without other s)) (set-without g other s s_is) (
        source.0,
        source.1,
        λ x has.
            elim ((source.2.members x).0 (said.2 x (Contains-without other s x has))) [
              | inl old ↦ old
              | inr new ↦ absurd (without-lacks other s x has new)
            ],
      ))

  -- and only there
  under_back : (most new : Option (List (List ℕ))) (s : List ℕ) → AreSets g (sets_in most)
      → IsMostAfter other g.ways most new → is_set g s ≡ true
      → list_any (Before most) (other_sources g other (under s)) ≡ true → Says least new (under s)
  under_back most None s sets is s_is comes = tt
  under_back None (Some new) s sets is s_is comes = absurd is
  under_back (Some many) (Some new) s sets is s_is comes =
      elim (or_cases (Before (Some many) (under (without other s)))
      (list_any (Before (Some many)) (lost_sources g other)) comes) [
        | inl rest ↦
            let mark = marks-true g least (Some many) (under (without other s)) rest in
            let t : List ℕ = mark.1.0 in
            let grown = with_is other t (set-rising g t (sets t mark.1.1)) in
            let covered = is.covers t (with_number other t) mark.1.1 grown in (
              covered.0,
              covered.1,
              λ x has. covered.2 x (elim (cases_eq x other) [
                | inl same ↦ (grown.members x).1 (inr same)
                | inr apart ↦ (grown.members x).1 (inl (mark.1.2 x (Contains-without_from other s x has apart)))
              ]),
            )
        | inr gone ↦ absurd (some_none (lost_back (Some many) (Some new) sets is gone))
      ]

-- the new families stand for what comes from the old ones
comes_there : (g : Setting) (other : ℕ) (least less : List (List ℕ)) (most more : Option (List (List ℕ)))
    → AreFit g least most
    → IsLeastAfter other g.ways least less → IsMostAfter other g.ways most more → (mark : Mark)
    → is_mark g mark ≡ true → Says less more mark
    → list_any (marks_of g least most) (other_sources g other mark) ≡ true
comes_there g other least less most more fit low high (over s) is said = over_there g other least less most s low is
    said
comes_there g other least less most more fit low high (under s) is said = under_there g other least most more s
    fit.most_sets high is said
comes_there g other least less most None fit low high lost is said = lost_there g other least most fit.most_sets high
comes_there g other least less most (Some more) fit low high lost is said = absurd said

-- and for nothing else
comes_back : (g : Setting) (other : ℕ) (least less : List (List ℕ)) (most more : Option (List (List ℕ)))
    → AreFit g least most
    → IsLeastAfter other g.ways least less → IsMostAfter other g.ways most more → (mark : Mark) → is_mark g mark ≡ true
    → list_any (marks_of g least most) (other_sources g other mark) ≡ true → Says less more mark
comes_back g other least less most more fit low high (over s) is comes = over_back g other least less most s
    fit.least_sets low is comes
comes_back g other least less most more fit low high (under s) is comes = under_back g other least most more s
    fit.most_sets high is comes
comes_back g other least less most None fit low high lost is comes = tt
comes_back g other least less most (Some more) fit low high lost is comes = absurd
    (some_none (lost_back g other least most (Some more) fit.most_sets high comes))

-- the marks that move over a fetch of another block
abbrev pub moved_by : Setting → Option ℕ → (Mark → Bool) → Mark → Bool
moved_by g fetch x mark = is_mark g mark && (always_of g fetch mark || list_any x (sources_of g fetch mark))

-- come from their sources alone
moved_other : (g : Setting) (other : ℕ) (x : Mark → Bool) (mark : Mark) → (other ≡ g.block → ⊥)
    → moved_by g (Some other) x mark ≡ (is_mark g mark && list_any x (other_sources g other mark))
moved_other g other x mark apart =
    ap (λ (b : Bool). is_mark g mark && ((b && is_fresh mark) || list_any x (cond b [] (other_sources g other mark))))
    (ne_eqb other g.block apart)

-- the families after a fetch of another block
pub marks-after : (g : Setting) (other : ℕ) (least less : List (List ℕ)) (most more : Option (List (List ℕ)))
    → (other ≡ g.block → ⊥) → AreFit g least most
    → IsLeastAfter other g.ways least less → IsMostAfter other g.ways most more
    → marks_of g less more ≡ moved_by g (Some other) (marks_of g least most)
marks-after g other least less most more apart fit low high = fun_ext
    (λ (mark : Mark). same_tests (marks_of g less more mark) (moved_by g (Some other) (marks_of g least most) mark)
    (λ has.
    let said = marks-true g less more mark has in
    moved_other g other (marks_of g least most) mark apart
    ∙ and_from (is_mark g mark) (list_any (marks_of g least most) (other_sources g other mark)) said.0
    (comes_there g other least less most more fit low high mark said.0 said.1))
    (λ has.
    let parts = and_parts (is_mark g mark) (list_any (marks_of g least most) (other_sources g other mark))
    (sym (moved_other g other (marks_of g least most) mark apart) ∙ has) in
    marks_from g less more mark parts.0 (comes_back g other least less most more fit low high mark parts.0 parts.1)))
