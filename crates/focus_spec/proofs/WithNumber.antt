-- What a rising list of numbers is with one more number.
use Rattle.std.proofs.Common.{◌≡◌, ℕ, ◌+◌, ◌<◌, ◌↔◌, ◌⊎◌, List, [], ◌∷◌, length, get_or, Contains, inl, inr, refl, sym, ap, subst, ◌∙◌, arith}
use Rattle.std.proofs.lemmas.Bool.{cases_order}
use Rattle.std.proofs.lemmas.Bool.Decides.{nat_tests}
use Rattle.std.proofs.lemmas.List.Elements.{Contains-append_right}
use Rattle.std.specs.List.Sorted.{IsStrictlyIncreasing}
use Rattle.set_list.specs.Rising.{Contains-cons}
use Rattle.focus_spec.specs.Younger.{with_number}
use Rattle.set_list.specs.RisingSets.{rising-one, rising-cons, rising-tail, first_below, not_below_first, after_first, same_from_subsets}

-- below the first number it stands first
pub with_number-below : (x y : ℕ) (ys : List ℕ) → x < y → with_number x (y ∷ ys) ≡ x ∷ y ∷ ys
with_number-below x y ys below = grind (arith, nat_tests)

-- the first number is there already
pub with_number-first : (x y : ℕ) (ys : List ℕ) → x ≡ y → with_number x (y ∷ ys) ≡ y ∷ ys
with_number-first x y ys same = grind (arith, nat_tests)

-- above the first number it stands among those after
pub with_number-above : (x y : ℕ) (ys : List ℕ) → y < x → with_number x (y ∷ ys) ≡ y ∷ with_number x ys
with_number-above x y ys above = grind (arith, nat_tests)

-- the longer list has the numbers of the set, and x
abbrev HasNumbers : ℕ → List ℕ → ℕ → List ℕ → Type 0
HasNumbers x set y longer = Contains longer y ↔ (Contains set y ⊎ (y ≡ x))

-- where x stands first already
has-first : (x z : ℕ) (zs : List ℕ) (y : ℕ) → x ≡ z → HasNumbers x (z ∷ zs) y (z ∷ zs)
has-first x z zs y same = (
  λ there. inl there,
  λ either. elim either [ inl there ↦ there | inr is ↦ (Contains-cons z zs y).1 (inr (is ∙ same)) ],
)

-- where x belongs after the first number
has-after : (x z : ℕ) (zs longer : List ℕ) (y : ℕ) → HasNumbers x zs y longer → HasNumbers x (z ∷ zs) y (z ∷ longer)
has-after x z zs longer y beyond = (
  λ there. elim ((Contains-cons z longer y).0 there) [
    | inl later ↦ elim (beyond.0 later) [ inl old ↦ inl ((Contains-cons z zs y).1 (inl old)) | inr is ↦ inr is ]
    | inr first ↦ inl ((Contains-cons z zs y).1 (inr first))
  ],
  λ either. elim either [
    | inl old ↦ elim ((Contains-cons z zs y).0 old) [
      | inl later ↦ (Contains-cons z longer y).1 (inl (beyond.1 (inl later)))
      | inr first ↦ (Contains-cons z longer y).1 (inr first)
    ]
    | inr is ↦ (Contains-cons z longer y).1 (inl (beyond.1 (inr is)))
  ],
)

-- the numbers of the list with x are those of the list, and x
pub Contains-with_number : (x : ℕ) (set : List ℕ) (y : ℕ) → Contains (with_number x set) y ↔ (Contains set y ⊎ (y ≡ x))
Contains-with_number x [] y = Contains-cons x [] y
Contains-with_number x (z ∷ zs) y = elim (cases_order x z) [
  | inl same ↦ subst (HasNumbers x (z ∷ zs) y) (sym (with_number-first x z zs same)) (has-first x z zs y same)
  | inr other ↦ elim other [
    | inl below ↦ subst (HasNumbers x (z ∷ zs) y) (sym (with_number-below x z zs below)) (Contains-cons x (z ∷ zs) y)
    | inr above ↦
        let beyond = has-after x z zs (with_number x zs) y (Contains-with_number x zs y) in
        subst (HasNumbers x (z ∷ zs) y) (sym (with_number-above x z zs above)) beyond
  ]
]

-- what is below x and below all numbers of the list is below the first one of the list with x
first-above : (y x : ℕ) (set : List ℕ) → y < x → (0 < length set → y < get_or set 0 0)
    → y < get_or (with_number x set) 0 0
first-above y x [] above bound = above
first-above y x (z ∷ zs) above bound =
    let old : y < z = bound (omega arith) in
    elim (cases_order x z) [
      | inl same ↦ rw (with_number-first x z zs same) old
      | inr other ↦ elim other [
        | inl below ↦ rw (with_number-below x z zs below) above
        | inr beyond ↦ rw (with_number-above x z zs beyond) old
      ]
    ]

-- the list with x rises
pub rising-with_number : (x : ℕ) (set : List ℕ) → IsStrictlyIncreasing set → IsStrictlyIncreasing (with_number x set)
rising-with_number x [] up = rising-one x
rising-with_number x (z ∷ zs) up = elim (cases_order x z) [
  | inl same ↦ subst (λ (s : List ℕ). IsStrictlyIncreasing s) (sym (with_number-first x z zs same)) up
  | inr other ↦ elim other [
    | inl below ↦ subst (λ (s : List ℕ). IsStrictlyIncreasing s) (sym (with_number-below x z zs below))
        (rising-cons x (z ∷ zs) (λ _. below) up)
    | inr above ↦
        let first = first-above z x zs above (first_below z zs up) in
        let beyond = rising-with_number x zs (rising-tail z zs up) in
        subst (λ (s : List ℕ). IsStrictlyIncreasing s) (sym (with_number-above x z zs above))
        (rising-cons z (with_number x zs) (λ _. first) beyond)
  ]
]

-- a number that is there already adds nothing
pub with_number-present : (x : ℕ) (set : List ℕ) → IsStrictlyIncreasing set → Contains set x → with_number x set ≡ set
with_number-present x [] up there = absurd (omega (arith, there.1))
with_number-present x (z ∷ zs) up there = elim (cases_order x z) [
  | inl same ↦ with_number-first x z zs same
  | inr other ↦ elim other [
    | inl below ↦ let least = not_below_first z zs x up there in absurd (omega arith)
    | inr above ↦
        let beyond = with_number-present x zs (rising-tail z zs up) (after_first z zs x above there) in
        with_number-above x z zs above ∙ ap (λ s. z ∷ s) beyond
  ]
]

-- a new number makes the list longer by one
pub length-with_number : (x : ℕ) (set : List ℕ) → (Contains set x → ⊥) → length (with_number x set) ≡ length set + 1
length-with_number x [] new = refl
length-with_number x (z ∷ zs) new = elim (cases_order x z) [
  | inl same ↦ absurd (new ((Contains-cons z zs x).1 (inr same)))
  | inr other ↦ elim other [
    | inl below ↦ omega (arith, ap length (with_number-below x z zs below))
    | inr above ↦
        let beyond = length-with_number x zs (λ there. new (Contains-append_right (z ∷ []) zs x there)) in
        omega (arith, ap length (with_number-above x z zs above), beyond)
  ]
]

-- a rising list of the old numbers and x is the list with x
pub with_number_from_members : (x : ℕ) (set longer : List ℕ) → IsStrictlyIncreasing set → IsStrictlyIncreasing longer
    → ((y : ℕ) → Contains longer y ↔ (Contains set y ⊎ (y ≡ x))) → longer ≡ with_number x set
with_number_from_members x set longer up longer_up members =
    same_from_subsets longer (with_number x set) longer_up (rising-with_number x set up)
    (λ y there. (Contains-with_number x set y).1 ((members y).0 there))
    (λ y there. (members y).1 ((Contains-with_number x set y).0 there))
