-- What lists contain.
use Rattle.std.proofs.Common.{◌≡◌, ℕ, zero, suc, ◌<◌, ◌⊎◌, inl, inr, List, [], ◌∷◌, length, map, Some, refl, ap, sym, subst, ◌∙◌, arith}
use Rattle.std.specs.Prelude.{Contains, slice_get}
use Rattle.std.specs.List.{AllByRecursion}
use Rattle.std.proofs.lemmas.List.{length-map, get_or-map}
use Rattle.std.proofs.lemmas.Option.{slice_get_within, get_or_from_slice_get}

-- the empty list contains nothing
pub has-none : {X : Type 0} (x : X) → Contains [] x → ⊥
has-none x (k, below, is) = omega (arith, below)

-- a list of one element contains no other
pub has-only : {X : Type 0} (x y : X) → Contains (x ∷ []) y → y ≡ x
has-only x y (zero, below, is) = sym is
has-only x y (suc k, below, is) = absurd (omega (arith, below))

-- a list contains its first element
pub has-first : {X : Type 0} (x : X) (xs : List X) → Contains (x ∷ xs) x
has-first x xs = (0, omega arith, refl)

-- and each element after
pub has-later : {X : Type 0} (x y : X) (xs : List X) → Contains xs y → Contains (x ∷ xs) y
has-later x y xs (k, below, is) = (suc k, omega (arith, below), is)

-- and no other
pub has-cases : {X : Type 0} (x y : X) (xs : List X) → Contains (x ∷ xs) y → (y ≡ x) ⊎ Contains xs y
has-cases x y xs (zero, below, is) = inl (sym is)
has-cases x y xs (suc k, below, is) = inr (k, omega (arith, below), is)

-- a list that contains nothing is empty
pub empty-none : {X : Type 0} (xs : List X) → ((x : X) → Contains xs x → ⊥) → xs ≡ []
empty-none [] none = refl
empty-none (x ∷ xs) none = absurd (none x (has-first x xs))

-- each place within a list has an element
pub found-inside : {X : Type 0} (xs : List X) (n : ℕ) → n < length xs → (x : X) × (slice_get xs n ≡ Some x)
found-inside [] n inside = absurd (omega (arith, inside))
found-inside (x ∷ xs) zero inside = (x, refl)
found-inside (x ∷ xs) (suc n) inside = found-inside xs n (omega (arith, inside))

-- which the list contains
pub has-found : {X : Type 0} (xs : List X) (n : ℕ) (x : X) → slice_get xs n ≡ Some x → Contains xs x
has-found xs n x is = (n, slice_get_within xs n x is, get_or_from_slice_get xs n x x is)

-- what a function gives of an element, it gives of the list
pub has-map : {X Y : Type 0} (f : X → Y) (xs : List X) (x : X) → Contains xs x → Contains (map f xs) (f x)
has-map f xs x (k, below, is) = (k, omega (arith, below, length-map xs f), get_or-map f xs k x (f x) below ∙ ap f is)

-- and of nothing else
pub from-map : {X Y : Type 0} (f : X → Y) (xs : List X) (y : Y) → Contains (map f xs) y
    → (x : X) × Contains xs x × (f x ≡ y)
from-map f [] y has = absurd (has-none y has)
from-map f (x ∷ xs) y (zero, below, is) = (x, has-first x xs, is)
from-map f (x ∷ xs) y (suc k, below, is) =
    let (z, has, same) = from-map f xs y (k, omega (arith, below), is) in (z, has-later x z xs has, same)

-- what holds of each element holds of one that the list contains
pub each-has : {X : Type 0} (P : X → Type 0) (xs : List X) → AllByRecursion P xs → (x : X) → Contains xs x → P x
each-has P [] all x has = absurd (has-none x has)
each-has P (y ∷ xs) all x has = elim (has-cases y x xs has) [
  | inl same ↦ subst P (sym same) all.0
  | inr later ↦ each-has P xs all.1 x later
]

-- and back
pub all-from_each : {X : Type 0} (P : X → Type 0) (xs : List X) → ((x : X) → Contains xs x → P x) → AllByRecursion P xs
all-from_each P [] each = tt
all-from_each P (x ∷ xs) each = (each x (has-first x xs), all-from_each P xs (λ y has. each y (has-later x y xs has)))
