-- What a flat map contains.
use Rattle.std.proofs.Common.{inl, inr, List, [], ◌∷◌, subst}
use Rattle.std.specs.Prelude.{Contains, flat_map}
use Rattle.std.proofs.lemmas.List.Elements.{Contains-append_left, Contains-append_right, Contains-append_cases}
use Rattle.list_lemmas.proofs.Members.{has-none, has-first, has-later, has-cases}

module _ {A B : Type 0} (f : A → List B) where
  -- what the function gives of an element
  pub has-flat_map : (xs : List A) (x : A) (y : B) → Contains xs x → Contains (f x) y → Contains (flat_map f xs) y
  has-flat_map [] x y has gives = absurd (has-none x has)
  has-flat_map (first ∷ xs) x y has gives = elim (has-cases first x xs has) [
    | inl same ↦ Contains-append_left (f first) (flat_map f xs) y (subst (λ z. Contains (f z) y) same gives)
    | inr later ↦ Contains-append_right (f first) (flat_map f xs) y (has-flat_map xs x y later gives)
  ]

  -- and nothing else
  pub from-flat_map : (xs : List A) (y : B) → Contains (flat_map f xs) y → (x : A) × Contains xs x × Contains (f x) y
  from-flat_map [] y has = absurd (has-none y has)
  from-flat_map (x ∷ xs) y has = elim (Contains-append_cases (f x) (flat_map f xs) y has) [
    | inl here ↦ (x, has-first x xs, here)
    | inr later ↦ let (z, there, gives) = from-flat_map xs y later in (z, has-later x z xs there, gives)
  ]
