-- Some elements in strict order, each once, without those of another list.
use Rattle.std.proofs.Common.{◌≡◌, ◌⊎◌, ◌↔◌, inl, inr, List, [], ◌∷◌, ◌++◌, refl, sym, ◌∙◌, ap, subst}
use Rattle.std.specs.Prelude.{Contains}
use Rattle.std.specs.List.{AllByRecursion}
use Rattle.std.specs.List.Sorted.{IsStrictlySortedBy}
use Rattle.std.specs.Cmp.{IsTotalOrder}
use Rattle.std.specs.Ordering.{match_ordering, ordering_reverse}
use Rattle.std.specs.BTreeSet.{insert_key}
use Rattle.std.specs.declared.cmp.Ordering.{Ordering}
use Rattle.std.specs.declared.cmp.Ordering.TheVariants.{Less, Equal, Greater}
use Rattle.std.proofs.lemmas.Cmp.{tied_itself}
use Rattle.std.proofs.lemmas.List.Elements.{Contains-append_left, Contains-append_right, Contains-append_cases}
use Rattle.list_lemmas.proofs.Members.{has-none, has-first, has-later, has-cases, each-has, all-from_each}

-- the elements of one list that aren't in another, in order
pub record AreRest {A : Type 0} (order : A → A → Ordering) (seen found rest : List A) : Type 0 where
  pub sorted : IsStrictlySortedBy order rest
  pub found_there : (x : A) → Contains rest x → Contains found x
  pub unseen : (x : A) → Contains rest x → Contains seen x → ⊥
  pub all : (x : A) → Contains found x → Contains (seen ++ rest) x

module _ {A : Type 0} (order : A → A → Ordering) (total : IsTotalOrder order)
    (exact : (x y : A) → order x y ≡ Equal → x ≡ y) where
  -- equal ones tie
  tie : (x y : A) → x ≡ y → order x y ≡ Equal
  tie x y same = cc (same, tied_itself total x)

  -- two are the same, or aren't
  same_or_not : (r : Ordering) (x y : A) → r ≡ order x y → (x ≡ y) ⊎ (x ≡ y → ⊥)
  same_or_not Less x y is = inr (λ same. absurd (cc (is, tie x y same)))
  same_or_not Equal x y is = inl (exact x y (sym is))
  same_or_not Greater x y is = inr (λ same. absurd (cc (is, tie x y same)))

  -- a list contains an element, or doesn't
  has_or_not : (xs : List A) (y : A) → Contains xs y ⊎ (Contains xs y → ⊥)
  has_or_not [] y = inr (has-none y)
  has_or_not (x ∷ xs) y = elim (same_or_not (order y x) y x refl) [
    | inl same ↦ inl (subst (Contains (x ∷ xs)) (sym same) (has-first x xs))
    | inr other ↦ elim (has_or_not xs y) [
      | inl later ↦ inl (has-later x y xs later)
      | inr none ↦ inr (λ has. elim (has-cases x y xs has) [ inl same ↦ other same | inr later ↦ none later ])
    ]
  ]

  -- the longer list has the elements of the list, and k
  abbrev HasAlso : A → List A → A → List A → Type 0
  HasAlso k xs y longer = Contains longer y ↔ (Contains xs y ⊎ (y ≡ k))

  -- where k stands first
  also-first : (k : A) (xs : List A) (y : A) → HasAlso k xs y (k ∷ xs)
  also-first k xs y = (
    λ has. elim (has-cases k y xs has) [ inl same ↦ inr same | inr later ↦ inl later ],
    λ either. elim either [
      | inl old ↦ has-later k y xs old
      | inr same ↦ subst (Contains (k ∷ xs)) (sym same) (has-first k xs)
    ],
  )

  -- at its place by its order to the first element, where that is right of the others
  also-at : (r : Ordering) (k x : A) (xs : List A) (y : A) → r ≡ order k x → HasAlso k xs y (insert_key order xs k)
      → HasAlso k (x ∷ xs) y (match_ordering r (k ∷ x ∷ xs) (x ∷ xs) (x ∷ insert_key order xs k))
  also-at Less k x xs y is rest = also-first k (x ∷ xs) y
  also-at Equal k x xs y is rest = (
    λ has. inl has,
    λ either. elim either [
      | inl old ↦ old
      | inr same ↦ subst (Contains (x ∷ xs)) (sym (same ∙ exact k x (sym is))) (has-first x xs)
    ],
  )
  also-at Greater k x xs y is rest = (
    λ has. elim (has-cases x y (insert_key order xs k) has) [
      | inl same ↦ inl (subst (Contains (x ∷ xs)) (sym same) (has-first x xs))
      | inr later ↦ elim (rest.0 later) [ inl old ↦ inl (has-later x y xs old) | inr same ↦ inr same ]
    ],
    λ either. elim either [
      | inl old ↦ elim (has-cases x y xs old) [
        | inl same ↦ subst (Contains (x ∷ insert_key order xs k)) (sym same) (has-first x (insert_key order xs k))
        | inr later ↦ has-later x y (insert_key order xs k) (rest.1 (inl later))
      ]
      | inr same ↦ has-later x y (insert_key order xs k) (rest.1 (inr same))
    ],
  )

  -- the list with k has its elements, and k
  has-insert : (k : A) (xs : List A) (y : A) → HasAlso k xs y (insert_key order xs k)
  has-insert k [] y = also-first k [] y
  has-insert k (x ∷ xs) y = also-at (order k x) k x xs y refl (has-insert k xs y)

  -- what holds of its elements and of k holds of the list with k
  all-insert : (P : A → Type 0) (k : A) (xs : List A) → AllByRecursion P xs → P k
      → AllByRecursion P (insert_key order xs k)
  all-insert P k xs all one =
      all-from_each P (insert_key order xs k) (λ y has. elim ((has-insert k xs y).0 has) [
        | inl old ↦ each-has P xs all y old
        | inr same ↦ subst P (sym same) one
      ])

  -- k at its place by its order to the first element leaves a list in order
  sorted-at : (r : Ordering) (k x : A) (xs : List A) → r ≡ order k x → IsStrictlySortedBy order (x ∷ xs)
      → IsStrictlySortedBy order (insert_key order xs k)
      → IsStrictlySortedBy order (match_ordering r (k ∷ x ∷ xs) (x ∷ xs) (x ∷ insert_key order xs k))
  unfolding IsStrictlySortedBy
  sorted-at Less k x xs is sorted rest =
      let after = all-from_each (λ y. order k y ≡ Less) xs (λ y has.
      total.trans k x y (sym is) (each-has (λ z. order x z ≡ Less) xs sorted.0 y has)) in
      ((sym is, after), sorted)
  sorted-at Equal k x xs is sorted rest = sorted
  sorted-at Greater k x xs is sorted rest =
      (all-insert (λ z. order x z ≡ Less) k xs sorted.0 (total.antisymm x k ∙ ap ordering_reverse (sym is)), rest)

  -- so does k at its place
  sorted-insert : (k : A) (xs : List A) → IsStrictlySortedBy order xs → IsStrictlySortedBy order (insert_key order xs k)
  unfolding IsStrictlySortedBy
  sorted-insert k [] sorted = (tt, tt)
  sorted-insert k (x ∷ xs) sorted = sorted-at (order k x) k x xs refl sorted (sorted-insert k xs sorted.1)

  -- one more element that was seen changes nothing
  rest-seen : (seen found rest : List A) (x : A) → Contains seen x → AreRest order seen found rest
      → AreRest order seen (x ∷ found) rest
  rest-seen seen found rest x old are = record {
    sorted = are.sorted;
    found_there = λ y has. has-later x y found (are.found_there y has);
    unseen = are.unseen;
    all = λ y has. elim (has-cases x y found has) [
      | inl same ↦ subst (Contains (seen ++ rest)) (sym same) (Contains-append_left seen rest x old)
      | inr later ↦ are.all y later
    ];
  }

  -- one that wasn't gets its place
  rest-new : (seen found rest : List A) (x : A) → (Contains seen x → ⊥) → AreRest order seen found rest
      → AreRest order seen (x ∷ found) (insert_key order rest x)
  rest-new seen found rest x new are = record {
    sorted = sorted-insert x rest are.sorted;
    found_there = λ y has. elim ((has-insert x rest y).0 has) [
      | inl old ↦ has-later x y found (are.found_there y old)
      | inr same ↦ subst (Contains (x ∷ found)) (sym same) (has-first x found)
    ];
    unseen = λ y has old. elim ((has-insert x rest y).0 has) [
      | inl there ↦ are.unseen y there old
      | inr same ↦ new (subst (Contains seen) same old)
    ];
    all = λ y has. elim (has-cases x y found has) [
      | inl same ↦ Contains-append_right seen (insert_key order rest x) y ((has-insert x rest y).1 (inr same))
      | inr later ↦ elim (Contains-append_cases seen rest y (are.all y later)) [
        | inl old ↦ Contains-append_left seen (insert_key order rest x) y old
        | inr there ↦ Contains-append_right seen (insert_key order rest x) y ((has-insert x rest y).1 (inl there))
      ]
    ];
  }

  -- there is such a list
  pub rest_of : (seen found : List A) → (rest : List A) × AreRest order seen found rest
  unfolding IsStrictlySortedBy
  rest_of seen [] = (
    [],
    record {
      sorted = tt;
      found_there = λ x has. has;
      unseen = λ x has old. has-none x has;
      all = λ x has. absurd (has-none x has);
    },
  )
  rest_of seen (x ∷ found) =
      let (rest, are) = rest_of seen found in
      elim (has_or_not seen x) [
        | inl old ↦ (rest, rest-seen seen found rest x old are)
        | inr new ↦ (insert_key order rest x, rest-new seen found rest x new are)
      ]
