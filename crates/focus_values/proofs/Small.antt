-- Small sets of local numbers, without a number and with one more.
use Rattle.std.proofs.Common.{◌≡◌, ℕ, ◌+◌, ◌<◌, ◌≤◌, true, ◌&&◌, List, [], ◌∷◌, length, eqb, ltb, leb, Contains, inl, inr, refl, sym, subst, ap, ◌∙◌, arith}
use Rattle.std.proofs.lemmas.Bool.{and_parts, and_from, cases_eq, cond-true, cond-false, eq-eqb, ne_eqb, ltb-true, leb-true, lt-ltb, le-leb}
use Rattle.std.specs.List.Sorted.{IsStrictlyIncreasing}
use Rattle.set_list.specs.Rising.{Contains-cons}
use Rattle.plain_family.specs.Family.{IsWith}
use Rattle.plain_family.proofs.Smaller.{IsWith-unique}
use Rattle.focus_spec.specs.Younger.{with_number}
use Rattle.focus_spec.proofs.WithNumber.{Contains-with_number, rising-with_number, with_number-present, length-with_number}
use Rattle.focus_values.specs.Sets.{rises, without}
use Rattle.focus_values.proofs.SetFacts.{rises-rising, rises-within, rises_from_rising}
use Rattle.focus_values.specs.Marks.{Setting, is_set}

-- the numbers of a small set rise
pub set-rising : (g : Setting) (s : List ℕ) → is_set g s ≡ true → IsStrictlyIncreasing s
set-rising g s is = rises-rising 0 g.count s (and_parts (rises 0 g.count s) (ltb (length s) g.ways) is).0

-- its numbers are below the count
pub set-within : (g : Setting) (s : List ℕ) → is_set g s ≡ true → (x : ℕ) → Contains s x → x < g.count
set-within g s is x there = (rises-within 0 g.count s (and_parts (rises 0 g.count s) (ltb (length s) g.ways) is).0 x
    there).1

-- it has fewer numbers than there are ways
pub set-few : (g : Setting) (s : List ℕ) → is_set g s ≡ true → length s < g.ways
set-few g s is = ltb-true (length s) g.ways (and_parts (rises 0 g.count s) (ltb (length s) g.ways) is).1

-- and such numbers make a small set
pub set_from : (g : Setting) (s : List ℕ) → IsStrictlyIncreasing s → ((x : ℕ) → Contains s x → x < g.count)
    → length s < g.ways → is_set g s ≡ true
set_from g s up within few =
    and_from (rises 0 g.count s) (ltb (length s) g.ways)
    (rises_from_rising 0 g.count s up (λ x there. (omega arith, within x there))) (lt-ltb (length s) g.ways few)

-- a first number x goes
without-same : (x y : ℕ) (ys : List ℕ) → y ≡ x → without x (y ∷ ys) ≡ without x ys
without-same x y ys same = cond-true (eqb y x) (without x ys) (y ∷ without x ys) (eq-eqb y x same)

-- another first number stays
without-other : (x y : ℕ) (ys : List ℕ) → (y ≡ x → ⊥) → without x (y ∷ ys) ≡ y ∷ without x ys
without-other x y ys other = cond-false (eqb y x) (without x ys) (y ∷ without x ys) (ne_eqb y x other)

-- its numbers are others of the set
pub Contains-without : (x : ℕ) (s : List ℕ) (z : ℕ) → Contains (without x s) z → Contains s z
Contains-without x [] z there = there
Contains-without x (y ∷ ys) z there = elim (cases_eq y x) [
  | inl same ↦ (Contains-cons y ys z).1 (inl
      (Contains-without x ys z (subst (λ (t : List ℕ). Contains t z) (without-same x y ys same) there)))
  | inr other ↦ elim ((Contains-cons y (without x ys) z).0
      (subst (λ (t : List ℕ). Contains t z) (without-other x y ys other) there)) [
        | inl rest ↦ (Contains-cons y ys z).1 (inl (Contains-without x ys z rest))
        | inr first ↦ (Contains-cons y ys z).1 (inr first)
      ]
]

-- and all others of the set
pub Contains-without_from : (x : ℕ) (s : List ℕ) (z : ℕ) → Contains s z → (z ≡ x → ⊥) → Contains (without x s) z
Contains-without_from x [] z there other = there
Contains-without_from x (y ∷ ys) z there apart = elim (cases_eq y x) [
  | inl same ↦ elim ((Contains-cons y ys z).0 there) [
    | inl rest ↦ subst (λ (t : List ℕ). Contains t z) (sym (without-same x y ys same))
        (Contains-without_from x ys z rest apart)
    | inr first ↦ absurd (apart (first ∙ same))
  ]
  | inr other ↦ subst (λ (t : List ℕ). Contains t z) (sym (without-other x y ys other))
      (elim ((Contains-cons y ys z).0 there) [
        | inl rest ↦ (Contains-cons y (without x ys) z).1 (inl (Contains-without_from x ys z rest apart))
        | inr first ↦ (Contains-cons y (without x ys) z).1 (inr first)
      ])
]

-- and not the number itself
pub without-lacks : (x : ℕ) (s : List ℕ) (z : ℕ) → Contains (without x s) z → z ≡ x → ⊥
without-lacks x [] z there same = omega (arith, there.1)
without-lacks x (y ∷ ys) z there is = elim (cases_eq y x) [
  | inl same ↦ without-lacks x ys z (subst (λ (t : List ℕ). Contains t z) (without-same x y ys same) there) is
  | inr other ↦ elim ((Contains-cons y (without x ys) z).0
      (subst (λ (t : List ℕ). Contains t z) (without-other x y ys other) there)) [
        | inl rest ↦ without-lacks x ys z rest is
        | inr first ↦ other (sym first ∙ is)
      ]
]

-- numbers that rise from a number on rise from a smaller one on
rises-lower : (low more high : ℕ) (s : List ℕ) → low ≤ more → rises more high s ≡ true → rises low high s ≡ true
rises-lower low more high [] below up = refl
rises-lower low more high (x ∷ xs) below up =
    let parts = and_parts (leb more x) (ltb x high && rises (x + 1) high xs) up in
    and_from (leb low x) (ltb x high && rises (x + 1) high xs) (le-leb low x (omega (arith, leb-true more x parts.0)))
    parts.1

-- the set without x rises
rises-without : (x low high : ℕ) (s : List ℕ) → rises low high s ≡ true → rises low high (without x s) ≡ true
rises-without x low high [] up = refl
rises-without x low high (y ∷ ys) up =
    let parts = and_parts (leb low y) (ltb y high && rises (y + 1) high ys) up in
    let more = and_parts (ltb y high) (rises (y + 1) high ys) parts.1 in
    let rest = rises-without x (y + 1) high ys more.1 in
    elim (cases_eq y x) [
      | inl same ↦
          subst (λ (t : List ℕ). rises low high t ≡ true) (sym (without-same x y ys same))
          (rises-lower low (y + 1) high (without x ys) (omega (arith, leb-true low y parts.0)) rest)
      | inr other ↦
          subst (λ (t : List ℕ). rises low high t ≡ true) (sym (without-other x y ys other))
          (and_from (leb low y) (ltb y high && rises (y + 1) high (without x ys)) parts.0
          (and_from (ltb y high) (rises (y + 1) high (without x ys)) more.0 rest))
    ]

-- and has no more numbers
length-without : (x : ℕ) (s : List ℕ) → length (without x s) ≤ length s
length-without x [] = omega arith
length-without x (y ∷ ys) = elim (cases_eq y x) [
  | inl same ↦ omega (arith, length-without x ys, ap length (without-same x y ys same))
  | inr other ↦ omega (arith, length-without x ys, ap length (without-other x y ys other))
]

-- so it is small too
pub set-without : (g : Setting) (x : ℕ) (s : List ℕ) → is_set g s ≡ true → is_set g (without x s) ≡ true
set-without g x s is =
    let parts = and_parts (rises 0 g.count s) (ltb (length s) g.ways) is in
    and_from (rises 0 g.count (without x s)) (ltb (length (without x s)) g.ways) (rises-without x 0 g.count s parts.0)
    (lt-ltb (length (without x s)) g.ways (omega (arith, length-without x s, ltb-true (length s) g.ways parts.1)))

-- a set and a number make a set
pub with_is : (x : ℕ) (s : List ℕ) → IsStrictlyIncreasing s → IsWith x s (with_number x s)
with_is x s up = record { rising = rising-with_number x s up; members = Contains-with_number x s }

-- whose numbers are one more where the number is new
pub with-length : (x : ℕ) (s t : List ℕ) → IsStrictlyIncreasing s → IsWith x s t → (Contains s x → ⊥)
    → length t ≡ length s + 1
with-length x s t up grown new = ap length (IsWith-unique x s t (with_number x s) grown (with_is x s up))
    ∙ length-with_number x s new

-- and which is the set where it isn't
pub with-present : (x : ℕ) (s t : List ℕ) → IsStrictlyIncreasing s → IsWith x s t → Contains s x → t ≡ s
with-present x s t up grown there = IsWith-unique x s t (with_number x s) grown (with_is x s up)
    ∙ with_number-present x s up there

-- it is small where it has few numbers
pub with-set : (g : Setting) (x : ℕ) (s t : List ℕ) → is_set g s ≡ true → x < g.count → IsWith x s t
    → length t < g.ways → is_set g t ≡ true
with-set g x s t is below grown few = set_from g t grown.rising
    (λ y there. elim ((grown.members y).0 there) [ inl old ↦ set-within g s is y old | inr new ↦ omega (arith, new) ])
    few
