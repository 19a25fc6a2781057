-- Their members determine lists in strict order.
use Rattle.std.proofs.Common.{◌≡◌, ℕ, List, [], ◌∷◌, refl, ap, sym, subst, arith, inl, inr}
use Rattle.std.specs.Prelude.{Contains}
use Rattle.std.specs.List.{AllByRecursion}
use Rattle.std.specs.List.Sorted.{IsStrictlySortedBy, IsStrictlyIncreasing}
use Rattle.std.specs.Cmp.{IsTotalOrder}
use Rattle.std.specs.Ordering.{nat_cmp, ordering_reverse}
use Rattle.std.specs.declared.cmp.Ordering.{Ordering}
use Rattle.std.specs.declared.cmp.Ordering.TheVariants.{Less}
use Rattle.std.proofs.lemmas.Cmp.{nat_cmp_total}
use Rattle.std.proofs.lemmas.Map.Keys.{sorted_from_strictly_increasing}
use Rattle.list_lemmas.proofs.Members.{has-first, has-later, has-cases, empty-none, each-has}

module _ {A : Type 0} (order : A → A → Ordering) (total : IsTotalOrder order) where
  -- nothing comes both before and after another
  pub one_way : (x y : A) → order x y ≡ Less → order y x ≡ Less → ⊥
  one_way x y before beyond =
      let turned : order x y ≡ ordering_reverse (order y x) = total.antisymm x y in
      let reversed : ordering_reverse (order y x) ≡ ordering_reverse Less = ap ordering_reverse beyond in
      absurd (cc (before, turned, reversed))

  -- the first of one list is the first of the other
  same_first : (x y : A) (xs ys : List A) → AllByRecursion (λ z. order x z ≡ Less) xs
      → AllByRecursion (λ z. order y z ≡ Less) ys
      → Contains (y ∷ ys) x → Contains (x ∷ xs) y → x ≡ y
  same_first x y xs ys before before' has has' = elim (has-cases y x ys has) [
    | inl same ↦ same
    | inr later ↦ elim (has-cases x y xs has') [
      | inl same ↦ sym same
      | inr later' ↦ absurd (one_way x y (each-has (λ z. order x z ≡ Less) xs before y later')
          (each-has (λ z. order y z ≡ Less) ys before' x later))
    ]
  ]

  -- what is after the first of one list is after that of the other
  same_later : (x y : A) (xs ys : List A) → x ≡ y → AllByRecursion (λ z. order x z ≡ Less) xs
      → ((z : A) → Contains (x ∷ xs) z → Contains (y ∷ ys) z) → (z : A) → Contains xs z → Contains ys z
  same_later x y xs ys same before there z has = elim (has-cases y z ys (there z (has-later x z xs has))) [
    | inl first ↦
        let less : order x z ≡ Less = each-has (λ z. order x z ≡ Less) xs before z has in
        let less' : order x x ≡ Less = subst (λ z. order x z ≡ Less) (let is : z ≡ x = cc (first, same) in is) less in
        absurd (one_way x x less' less')
    | inr later ↦ later
  ]

  -- two lists in strict order with the same members are one
  pub same_sorted : (xs ys : List A) → IsStrictlySortedBy order xs → IsStrictlySortedBy order ys
      → ((z : A) → Contains xs z → Contains ys z) → ((z : A) → Contains ys z → Contains xs z) → xs ≡ ys
  unfolding IsStrictlySortedBy
  same_sorted [] [] sorted sorted' there back = refl
  same_sorted [] (y ∷ ys) sorted sorted' there back =
      sym (empty-none (y ∷ ys) (λ z has. let (k, lt, is) = back z has in omega (arith, lt)))
  same_sorted (x ∷ xs) [] sorted sorted' there back =
      empty-none (x ∷ xs) (λ z has. let (k, lt, is) = there z has in omega (arith, lt))
  same_sorted (x ∷ xs) (y ∷ ys) sorted sorted' there back =
      let first : x ≡ y = same_first x y xs ys sorted.0 sorted'.0 (there x (has-first x xs))
      (back y (has-first y ys)) in
      let rest : xs ≡ ys =
      same_sorted xs ys sorted.1 sorted'.1 (same_later x y xs ys first sorted.0 there)
      (same_later y x ys xs (sym first) sorted'.0 back) in
      cc (first, rest)

-- the same of numbers that rise
pub same_rising : (xs ys : List ℕ) → IsStrictlyIncreasing xs → IsStrictlyIncreasing ys
    → ((z : ℕ) → Contains xs z → Contains ys z) → ((z : ℕ) → Contains ys z → Contains xs z) → xs ≡ ys
same_rising xs ys rising rising' there back =
    same_sorted nat_cmp nat_cmp_total xs ys (sorted_from_strictly_increasing xs rising)
    (sorted_from_strictly_increasing ys rising') there back
