-- Lists of numbers that rise, each of them the numbers of a set.
use Rattle.std.proofs.Common.{◌≡◌, ℕ, zero, suc, ◌+◌, ◌<◌, ◌≤◌, ◌⊎◌, List, [], ◌∷◌, length, get_or, Contains, inl, inr, refl, ap, suc-add, arith}
use Rattle.std.proofs.lemmas.Bool.{cases_order}
use Rattle.std.proofs.lemmas.List.Elements.{Contains-append_right}
use Rattle.std.proofs.lemmas.List.Kept.{AllPairs-from_increasing}
use Rattle.std.specs.List.Sorted.{IsStrictlyIncreasing}
use Rattle.set_list.specs.SetList.{IsSubset}
use Rattle.set_list.specs.Rising.{Contains-cons}

-- the empty list rises
pub rising-empty : IsStrictlyIncreasing []
rising-empty k inside = absurd (omega (arith, inside))

-- a list of one number rises
pub rising-one : (x : ℕ) → IsStrictlyIncreasing (x ∷ [])
rising-one x k inside = absurd (omega (arith, inside))

-- a number stands before a rising list that it is below
pub rising-cons : (x : ℕ) (xs : List ℕ) → (0 < length xs → x < get_or xs 0 0) → IsStrictlyIncreasing xs
    → IsStrictlyIncreasing (x ∷ xs)
rising-cons x xs below up zero inside = below (omega (arith, inside))
rising-cons x xs below up (suc k) inside = rw suc-add (up k (omega (arith, inside)))

-- what stands after the first number rises
pub rising-tail : (x : ℕ) (xs : List ℕ) → IsStrictlyIncreasing (x ∷ xs) → IsStrictlyIncreasing xs
rising-tail x xs up k inside =
    AllPairs-from_increasing (x ∷ xs) up (suc k) (suc (k + 1)) 0 (omega arith) (omega (arith, inside))

-- the first number is below the next
pub first_below : (x : ℕ) (xs : List ℕ) → IsStrictlyIncreasing (x ∷ xs) → 0 < length xs → x < get_or xs 0 0
first_below x xs up more = up 0 (omega arith)

-- what stands after the first number is above it
pub above_first : (x : ℕ) (xs : List ℕ) (y : ℕ) → IsStrictlyIncreasing (x ∷ xs) → Contains xs y → x < y
above_first x xs y up there =
    let above : x < get_or xs there.0 y =
    AllPairs-from_increasing (x ∷ xs) up 0 (suc there.0) y (omega arith) (omega (arith, there.1)) in
    omega (arith, above, there.2)

-- no number is below the first
pub not_below_first : (x : ℕ) (xs : List ℕ) (y : ℕ) → IsStrictlyIncreasing (x ∷ xs) → Contains (x ∷ xs) y → x ≤ y
not_below_first x xs y up there = elim ((Contains-cons x xs y).0 there) [
  | inl later ↦ let above = above_first x xs y up later in omega arith
  | inr first ↦ omega (arith, first)
]

-- a number above the first stands after it
pub after_first : (x : ℕ) (xs : List ℕ) (y : ℕ) → x < y → Contains (x ∷ xs) y → Contains xs y
after_first x xs y above there =
    elim ((Contains-cons x xs y).0 there) [ inl later ↦ later | inr first ↦ absurd (omega (arith, first)) ]

-- a subset has fewer numbers or is the same set
pub smaller_or_same : (s t : List ℕ) → IsStrictlyIncreasing s → IsStrictlyIncreasing t → IsSubset s t
    → (length s < length t) ⊎ (s ≡ t)
smaller_or_same [] [] s_up t_up subset = inr refl
smaller_or_same [] (b ∷ t) s_up t_up subset = inl (omega arith)
smaller_or_same (a ∷ s) [] s_up t_up subset =
    let there : Contains [] a = subset a ((Contains-cons a s a).1 (inr refl)) in
    absurd (omega (arith, there.1))
smaller_or_same (a ∷ s) (b ∷ t) s_up t_up subset = elim (cases_order a b) [
  | inl same ↦
      let rest : IsSubset s t = λ y there.
      let above = above_first a s y s_up there in
      after_first b t y (omega (arith, above, same)) (subset y (Contains-append_right (a ∷ []) s y there)) in
      elim (smaller_or_same s t (rising-tail a s s_up) (rising-tail b t t_up) rest) [
        | inl fewer ↦ inl (omega (arith, fewer))
        | inr equal ↦ inr (cc (same, equal))
      ]
  | inr other ↦ elim other [
    | inl below ↦
        let least = not_below_first b t a t_up (subset a ((Contains-cons a s a).1 (inr refl))) in
        absurd (omega (arith, below, least))
    | inr above ↦
        let rest : IsSubset (a ∷ s) t = λ y there.
        let least = not_below_first a s y s_up there in
        after_first b t y (omega (arith, above, least)) (subset y there) in
        elim (smaller_or_same (a ∷ s) t s_up (rising-tail b t t_up) rest) [
          | inl fewer ↦ inl (omega (arith, fewer))
          | inr equal ↦ let long = ap length equal in inl (omega (arith, long))
        ]
  ]
]

-- a subset has no more numbers
pub subset-short : (s t : List ℕ) → IsStrictlyIncreasing s → IsStrictlyIncreasing t → IsSubset s t → length s ≤ length t
subset-short s t s_up t_up subset = elim (smaller_or_same s t s_up t_up subset) [
  | inl fewer ↦ omega (arith, fewer)
  | inr same ↦ omega (arith, ap length same)
]

-- and is the same set where it has no fewer
pub subset-same : (s t : List ℕ) → IsStrictlyIncreasing s → IsStrictlyIncreasing t → IsSubset s t → length t ≤ length s
    → s ≡ t
subset-same s t s_up t_up subset long = elim (smaller_or_same s t s_up t_up subset) [
  | inl fewer ↦ absurd (omega (arith, fewer, long))
  | inr same ↦ same
]

-- sets that include each other are the same
pub same_from_subsets : (s t : List ℕ) → IsStrictlyIncreasing s → IsStrictlyIncreasing t → IsSubset s t → IsSubset t s
    → s ≡ t
same_from_subsets s t s_up t_up there back = subset-same s t s_up t_up there (subset-short t s t_up s_up back)
