-- A walk along one rising list that looks for the numbers of another.
use Rattle.std.proofs.Common.{◌≡◌, ℕ, ◌+◌, ◌<◌, ◌≤◌, ◌==◌, ◌↔◌, inl, inr, IsTrue, List, length, get_or, Contains, sym, ap, subst, ◌∙◌, arith, eq-eqb, eqb-true}
use Rattle.std.proofs.lemmas.Bool.{cases_lt, cases_eq}
use Rattle.std.proofs.lemmas.List.{get_or_default}
use Rattle.std.proofs.lemmas.List.Elements.{Contains-get_or}
use Rattle.std.proofs.lemmas.List.Kept.{AllPairs-from_increasing}
use Rattle.std.specs.List.Sorted.{IsStrictlyIncreasing}
use Rattle.set_list.specs.SetList.{IsSubset}

-- the first wanted numbers are found, and of the items so far, the next one is none
pub record AreFound (wanted items : List ℕ) (found passed : ℕ) : Type 0 where
  pub within : found ≤ length wanted
  pub found_each : (k : ℕ) → k < found → Contains items (get_or wanted k 0)
  pub missing : found < length wanted → (k : ℕ) → k < passed → get_or items k 0 ≡ get_or wanted found 0 → ⊥

-- the item is the next wanted number, and so below the one after it
pub found_more : (wanted items : List ℕ) (found passed : ℕ) → IsStrictlyIncreasing wanted → IsStrictlyIncreasing items
    → AreFound wanted items found passed → found < length wanted → passed < length items
    → get_or wanted found 0 ≡ get_or items passed 0
    → AreFound wanted items (found + 1) (passed + 1)
found_more wanted items found passed wanted_up items_up before more inside same = record {
  within = omega arith;
  found_each = λ k below. elim (cases_eq k found) [
    | inl last ↦ subst (Contains items) (sym (ap (λ n. get_or wanted n 0) last ∙ same))
        (Contains-get_or items passed 0 inside)
    | inr other ↦ before.found_each k (omega arith)
  ];
  missing = λ left k below equal.
      let rises : get_or wanted found 0 < get_or wanted (found + 1) 0 = wanted_up found left in
      elim (cases_eq k passed) [
        | inl last ↦
            let here : get_or items k 0 ≡ get_or items passed 0 = ap (λ n. get_or items n 0) last in
            omega arith
        | inr other ↦
            let lower : get_or items k 0 < get_or items passed 0 =
            AllPairs-from_increasing items items_up k passed 0 (omega arith) inside in
            omega arith
      ];
}

-- the item is not the next wanted number
pub found_same : (wanted items : List ℕ) (found passed : ℕ) → AreFound wanted items found passed
    → (found < length wanted → get_or wanted found 0 ≡ get_or items passed 0 → ⊥)
    → AreFound wanted items found (passed + 1)
found_same wanted items found passed before differs = record {
  within = before.within;
  found_each = before.found_each;
  missing = λ left k below equal. elim (cases_eq k passed) [
    | inl last ↦ differs left (sym equal ∙ ap (λ n. get_or items n 0) last)
    | inr other ↦ before.missing left k (omega arith) equal
  ];
}

-- after the last item
pub missing_from_found : (wanted items : List ℕ) (found passed : ℕ) → AreFound wanted items found passed
    → length items ≤ passed
    → found < length wanted → Contains items (get_or wanted found 0) → ⊥
missing_from_found wanted items found passed walked all left there =
    let inside = there.1 in
    walked.missing left there.0 (omega arith) (get_or_default items there.0 0 (get_or wanted found 0) inside ∙ there.2)

-- a set of which all numbers are found, and only such a set, is a subset
pub subset_from_count : (xs ys : List ℕ) (n : ℕ) → n ≤ length xs → ((k : ℕ) → k < n → Contains ys (get_or xs k 0))
    → (n < length xs → Contains ys (get_or xs n 0) → ⊥) → IsTrue (n == length xs) ↔ IsSubset xs ys
subset_from_count xs ys n within found missing = (
  λ all x there.
      let same : n ≡ length xs = eqb-true n (length xs) all in
      let inside = there.1 in
      subst (Contains ys) (get_or_default xs there.0 0 x inside ∙ there.2) (found there.0 (omega arith)),
  λ subset. elim (cases_lt n (length xs)) [
    | inl left ↦ absurd (missing left (subset (get_or xs n 0) (Contains-get_or xs n 0 left)))
    | inr all ↦ eq-eqb n (length xs) (omega arith)
  ],
)
