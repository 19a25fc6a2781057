-- Tests that compute, as facts.
use Rattle.std.proofs.Common.{◌≡◌, Bool, true, false, List, [], ◌∷◌, refl, sym, inl, inr, arith}
use Rattle.std.proofs.lemmas.Bool.{or_cases, or_left, or_right}
use Rattle.std.specs.List.{Contains, list_any}
use Rattle.set_list.specs.Rising.{Contains-cons}

-- two tests that follow from each other are one
pub same_tests : (a b : Bool) → (a ≡ true → b ≡ true) → (b ≡ true → a ≡ true) → a ≡ b
same_tests true b there back = sym (there refl)
same_tests false true there back = back refl
same_tests false false there back = refl

-- where some element passes, one is found
pub found_from_any : {X : Type 0} (p : X → Bool) (xs : List X) → list_any p xs ≡ true
    → (x : X) × Contains xs x × (p x ≡ true)
found_from_any p [] any = absurd (cc)
found_from_any p (x ∷ xs) any = elim (or_cases (p x) (list_any p xs) any) [
  | inl first ↦ (x, (Contains-cons x xs x).1 (inr refl), first)
  | inr rest ↦ let found = found_from_any p xs rest in (found.0, (Contains-cons x xs found.0).1 (inl found.1), found.2)
]

-- an element that passes is some element
pub any_from_found : {X : Type 0} (p : X → Bool) (xs : List X) (x : X) → Contains xs x → p x ≡ true
    → list_any p xs ≡ true
any_from_found p [] x there passes = absurd (omega (arith, there.1))
any_from_found {X} p (y ∷ xs) x there passes = elim ((Contains-cons y xs x).0 there) [
  | inl rest ↦ or_right (p y) (list_any p xs) (any_from_found p xs x rest passes)
  | inr first ↦ or_left (p y) (list_any p xs) (let same : p y ≡ p x = cc in cc)
]
