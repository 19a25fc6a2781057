-- What an insert leaves of a list in which each element stands in a relation to all later ones.
use Rattle.std.proofs.Common.{◌≡◌, ℕ, ◌+◌, ◌-◌, ◌<◌, ◌≤◌, ◌↔◌, ◌⊎◌, inl, inr, List, ◌∷◌, length, get_or, sym, ap, subst, ◌∙◌, arith}
use Rattle.std.proofs.lemmas.Bool.{cases_lt}
use Rattle.std.proofs.lemmas.List.Edits.{length-insert, get_or-insert_below, get_or-insert_at, get_or-insert_above}
use Rattle.std.proofs.lemmas.List.Sorted.{IsPermutation-insert, IsPermutation-sym, Contains-permutation}
use Rattle.std.specs.List.{Contains, AllPairs, insert}
use Rattle.std.specs.List.Sorted.{IsStrictlyIncreasing}
use Rattle.list_lemmas.proofs.Members.{has-later, has-cases}

-- a relation at equal elements
related : {X : Type 0} (R : X → X → Type 0) (a b c d : X) → a ≡ c → b ≡ d → R c d → R a b
related R a b c d p q r = subst (λ v. R v b) (sym p) (subst (λ v. R c v) (sym q) r)

-- after the new element stands what stood one place before
get_or-insert_after : {X : Type 0} (xs : List X) (i : ℕ) (y d : X) (k : ℕ) → i < k → i ≤ length xs
    → get_or (insert xs i y) k d ≡ get_or xs (k - 1) d
get_or-insert_after xs i y d k beyond within =
    let same : k ≡ (k - 1) + 1 = omega arith in
    ap (λ n. get_or (insert xs i y) n d) same ∙ get_or-insert_above xs i y d (k - 1) (omega arith) within

-- the new element stands in its place
pub AllPairs-insert : {X : Type 0} (R : X → X → Type 0) (xs : List X) (i : ℕ) (y : X) → i ≤ length xs → AllPairs R xs
    → ((k : ℕ) (d : X) → k < i → R (get_or xs k d) y) → ((k : ℕ) (d : X) → i ≤ k → k < length xs → R y (get_or xs k d))
    → AllPairs R (insert xs i y)
AllPairs-insert R xs i y within pairs below above j k d before inside =
    let longer = length-insert xs i y within in
    elim (cases_lt k i) [
      | inl k_prefix ↦ related R _ _ _ _ (get_or-insert_below xs i y d j (omega arith) within)
          (get_or-insert_below xs i y d k k_prefix within) (pairs j k d before (omega arith))
      | inr k_back ↦ elim (cases_lt j i) [
        | inl j_prefix ↦ elim (cases_lt i k) [
          | inl k_after ↦ related R _ _ _ _ (get_or-insert_below xs i y d j j_prefix within)
              (get_or-insert_after xs i y d k k_after within) (pairs j (k - 1) d (omega arith) (omega arith))
          | inr k_at ↦
              let same : k ≡ i = omega arith in
              related R _ _ _ _ (get_or-insert_below xs i y d j j_prefix within)
              (ap (λ n. get_or (insert xs i y) n d) same ∙ get_or-insert_at xs i y d within) (below j d j_prefix)
        ]
        | inr j_back ↦ elim (cases_lt i j) [
          | inl j_after ↦ related R _ _ _ _ (get_or-insert_after xs i y d j j_after within)
              (get_or-insert_after xs i y d k (omega arith) within)
              (pairs (j - 1) (k - 1) d (omega arith) (omega arith))
          | inr j_at ↦
              let same : j ≡ i = omega arith in
              related R _ _ _ _ (ap (λ n. get_or (insert xs i y) n d) same ∙ get_or-insert_at xs i y d within)
              (get_or-insert_after xs i y d k (omega arith) within) (above (k - 1) d (omega arith) (omega arith))
        ]
      ]
    ]

-- what a list contains with one more element
pub Contains-cons : {X : Type 0} (x : X) (xs : List X) (y : X) → Contains (x ∷ xs) y ↔ (Contains xs y ⊎ (y ≡ x))
Contains-cons x xs y = (
  λ there. elim (has-cases x y xs there) [ inl same ↦ inr same | inr rest ↦ inl rest ],
  λ either. elim either [ inl rest ↦ has-later x y xs rest | inr same ↦ (0, omega arith, sym same) ],
)

-- what a list with one more element contains
pub Contains-insert : {X : Type 0} (xs : List X) (i : ℕ) (x y : X)
    → Contains (insert xs i x) y ↔ (Contains xs y ⊎ (y ≡ x))
Contains-insert xs i x y =
    let moved = IsPermutation-insert xs i x in (
      λ there. (Contains-cons x xs y).0 (Contains-permutation _ _ y (IsPermutation-sym _ _ moved) there),
      λ either. Contains-permutation _ _ y moved ((Contains-cons x xs y).1 either),
    )

-- numbers of which each is below all later ones rise
pub rising_from_AllPairs : (xs : List ℕ) → AllPairs (λ x y. x < y) xs → IsStrictlyIncreasing xs
rising_from_AllPairs xs pairs k inside = pairs k (k + 1) 0 (omega arith) inside
