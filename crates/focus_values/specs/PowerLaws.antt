-- Sets of marks are a monotone framework.
use Rattle.std.proofs.Common.{◌≡◌, ◌≢◌, ℕ, ◌+◌, ◌≤◌, Bool, true, false, ◌||◌, cond, List, [], ◌∷◌, length, sym, ap, ◌∙◌, inl, inr, arith}
use mathlib.Core.Path.{fun_ext}
use Rattle.std.proofs.lemmas.Bool.{and_parts, and_from, or_cases, or_left, or_right, cases_Bool, cases_eq, both_ways, cond_both}
use Rattle.std.specs.List.{Contains, list_any}
use Rattle.set_list.specs.Rising.{Contains-cons}
use Rattle.lattice_fix.specs.Framework.{IsMonotone, IsChain}
use Rattle.focus_values.specs.Tests.{same_tests, found_from_any, any_from_found}
use Rattle.focus_values.specs.Power.{Marking, power, moved, HasAll}

-- each mark of the first set is in the second
abbrev IsBelow : {M : Type 0} → (M → Bool) → (M → Bool) → Type 0
IsBelow {M} x y = (mark : M) → x mark ≡ true → y mark ≡ true

-- how many marks of a list are in a set
abbrev count_of : {M : Type 0} → (M → Bool) → List M → ℕ
count_of x [] = 0
count_of x (mark ∷ marks) = cond (x mark) 1 0 + count_of x marks

-- no more than there are
count-short : {M : Type 0} (x : M → Bool) (marks : List M) → count_of x marks ≤ length marks
count-short x [] = omega arith
count-short x (mark ∷ marks) = cond_both (x mark) 1 0 (λ n. n + count_of x marks ≤ length (mark ∷ marks))
    (λ holds. omega (arith, count-short x marks)) (λ lacks. omega (arith, count-short x marks))

-- a mark that is in the set counts, and another one doesn't
count-in : {M : Type 0} (x : M → Bool) (mark : M) (marks : List M) → x mark ≡ true
    → count_of x (mark ∷ marks) ≡ 1 + count_of x marks
count-in x mark marks has = ap (λ (b : Bool). cond b 1 0 + count_of x marks) has

count-out : {M : Type 0} (x : M → Bool) (mark : M) (marks : List M) → x mark ≡ false
    → count_of x (mark ∷ marks) ≡ 0 + count_of x marks
count-out x mark marks lacks = ap (λ (b : Bool). cond b 1 0 + count_of x marks) lacks

-- a greater set has as many marks of a list, or more
count-below : {M : Type 0} (x y : M → Bool) (marks : List M) → IsBelow x y → count_of x marks ≤ count_of y marks
count-below x y [] below = omega arith
count-below x y (mark ∷ marks) below =
    let rest = count-below x y marks below in
    elim (cases_Bool (x mark)) [
      | inl holds ↦ omega (arith, rest, count-in x mark marks holds, count-in y mark marks (below mark holds))
      | inr lacks ↦ elim (cases_Bool (y mark)) [
        | inl holds ↦ omega (arith, rest, count-out x mark marks lacks, count-in y mark marks holds)
        | inr both ↦ omega (arith, rest, count-out x mark marks lacks, count-out y mark marks both)
      ]
    ]

-- where it has no more, its marks of the list are in the smaller set
count-same : {M : Type 0} (x y : M → Bool) (marks : List M) → IsBelow x y → count_of y marks ≤ count_of x marks
    → (mark : M) → Contains marks mark → y mark ≡ true → x mark ≡ true
count-same x y [] below few mark there has = absurd (omega (arith, there.1))
count-same {M} x y (first ∷ marks) below few mark there has =
    let rest = count-below x y marks below in
    elim (cases_Bool (x first)) [
      | inl holds ↦
          let less : count_of y marks ≤ count_of x marks = omega
          (arith, few, count-in x first marks holds, count-in y first marks (below first holds)) in
          elim ((Contains-cons first marks mark).0 there) [
            | inl later ↦ count-same x y marks below less mark later has
            | inr same ↦ ap x same ∙ holds
          ]
      | inr lacks ↦ elim (cases_Bool (y first)) [
        | inl holds ↦ absurd (omega (arith, few, rest, count-out x first marks lacks, count-in y first marks holds))
        | inr both ↦
            let less : count_of y marks ≤ count_of x marks = omega
            (arith, few, count-out x first marks lacks, count-out y first marks both) in
            elim ((Contains-cons first marks mark).0 there) [
              | inl later ↦ count-same x y marks below less mark later has
              | inr same ↦ absurd (both_ways (y first) both (sym (ap y same) ∙ has))
            ]
      ]
    ]

module _ {M : Type 0} (K : Marking M) (full : HasAll K) where
  -- sets of the same marks are one
  same_sets : (x y : M → Bool) → IsBelow x y → IsBelow y x → x ≡ y
  same_sets x y there back = fun_ext (λ (mark : M). same_tests (x mark) (y mark) (there mark) (back mark))

  -- a set that is greater and not the same has more marks
  more : (x y : M → Bool) → ((mark : M) → y mark ≡ true → K.is_mark mark ≡ true) → IsBelow x y → x ≢ y
      → count_of x K.all + 1 ≤ count_of y K.all
  more x y within below apart =
      let few = count-below x y K.all below in
      elim (cases_eq (count_of x K.all) (count_of y K.all)) [
        | inl same ↦ absurd (apart (same_sets x y below
            (λ mark has. count-same x y K.all below (omega (arith, same)) mark (full mark (within mark has)) has)))
        | inr other ↦ omega (arith, few, other)
      ]

  -- a chain has at most one member more than its last set has marks
  short_chain : (x : M → Bool) (earlier : List (M → Bool)) → IsChain (power K) (x ∷ earlier)
      → length (x ∷ earlier) ≤ count_of x K.all + 1
  short_chain x [] chain = omega arith
  short_chain y (x ∷ earlier) chain =
      let rest : length (x ∷ earlier) ≤ count_of x K.all + 1 = short_chain x earlier chain.3 in
      let grown = more x y chain.0 chain.1 chain.2 in
      omega (arith, rest, grown)

  -- so a chain is at most as long as there are marks, and one
  short_chains : (chain : List (M → Bool)) → IsChain (power K) chain → length chain ≤ length K.all + 1
  short_chains [] chain = omega arith
  short_chains (x ∷ earlier) chain = omega (arith, short_chain x earlier chain, count-short x K.all)

  -- what moves from a smaller set moves from a greater one
  moved_more : (n : ℕ) (x y : M → Bool) → IsBelow x y → IsBelow (moved K n x) (moved K n y)
  moved_more n x y below mark has =
      let parts = and_parts (K.is_mark mark) (K.always n mark || list_any x (K.sources n mark)) has in
      and_from (K.is_mark mark) (K.always n mark || list_any y (K.sources n mark)) parts.0
      (elim (or_cases (K.always n mark) (list_any x (K.sources n mark)) parts.1) [
        | inl stands ↦ or_left (K.always n mark) (list_any y (K.sources n mark)) stands
        | inr comes ↦
            let found = found_from_any x (K.sources n mark) comes in
            or_right (K.always n mark) (list_any y (K.sources n mark))
            (any_from_found y (K.sources n mark) found.0 found.1 (below found.0 found.2))
      ])

  -- the laws hold
  pub power_monotone : IsMonotone (power K)
  power_monotone = record {
    reflexive = λ x cx mark has. has;
    transitive = λ x y z cx cy cz a b mark has. b mark (a mark has);
    antisymmetric = λ x y cx cy a b. same_sets x y a b;
    join_within = λ x y cx cy mark has. elim (or_cases (x mark) (y mark) has) [
      | inl one ↦ cx mark one
      | inr two ↦ cy
          mark two
    ];
    join_left = λ x y cx cy mark has. or_left (x mark) (y mark) has;
    join_right = λ x y cx cy mark has. or_right (x mark) (y mark) has;
    join_least = λ x y z cx cy cz a b mark has.
        elim (or_cases (x mark) (y mark) has) [ inl one ↦ a mark one | inr two ↦ b mark two ];
    start_within = λ mark has. (and_parts (K.is_mark mark) (K.begins mark) has).0;
    transfer_within = λ n x cx mark has. (and_parts (K.is_mark mark)
        (K.always n mark || list_any x (K.sources n mark)) has).0;
    monotone = λ n x y cx cy a. moved_more n x y a;
    chains = short_chains;
  }
