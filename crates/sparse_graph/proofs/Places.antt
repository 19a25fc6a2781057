-- The data at places of a list.
use Rattle.std.proofs.Common.{◌≡◌, ℕ, zero, suc, ◌<◌, List, [], ◌∷◌, length, get_or, Option, Some, refl, ap, sym, ◌∙◌, arith}
use Rattle.std.specs.Prelude.{slice_get}
use Rattle.std.specs.List.{cons_option}
use Rattle.list_lemmas.proofs.Members.{found-inside}
use Rattle.sparse_graph.specs.Alike.{data_at}

-- each number is below the bound
abbrev pub AreBelow : List ℕ → ℕ → Type 0
AreBelow places bound = (k : ℕ) → k < length places → get_or places k 0 < bound

module _ {D : Type 0} (held : List D) where
  -- the numbers after the first are below it too
  later_below : (place : ℕ) (places : List ℕ) → AreBelow (place ∷ places) (length held)
      → AreBelow places (length held)
  later_below place places below k inside = below (suc k) (omega (arith, inside))

  -- the datum at the first place stands first
  first_datum : (place : ℕ) (places : List ℕ) → place < length held
      → (x : D) × (slice_get held place ≡ Some x) × (data_at held (place ∷ places) ≡ x ∷ data_at held places)
  first_datum place places inside =
      let found = found-inside held place inside in
      (found.0, found.1, ap (λ (o : Option D). cons_option o (data_at held places)) found.1)

  -- there is a datum for each place
  pub length-data_at : (places : List ℕ) → AreBelow places (length held) → length (data_at held places) ≡ length places
  length-data_at [] below = refl
  length-data_at (place ∷ places) below =
      let first = first_datum place places (below 0 (omega arith)) in
      let rest = length-data_at places (later_below place places below) in
      omega (arith, ap length first.2, rest)

  -- and it is what the list has at that place
  pub datum_at : (places : List ℕ) (k : ℕ) → AreBelow places (length held) → k < length places
      → slice_get (data_at held places) k ≡ slice_get held (get_or places k 0)
  datum_at [] k below inside = absurd (omega (arith, inside))
  datum_at (place ∷ places) zero below inside =
      let first = first_datum place places (below 0 (omega arith)) in
      ap (λ (xs : List D). slice_get xs 0) first.2 ∙ sym first.1
  datum_at (place ∷ places) (suc k) below inside =
      let first = first_datum place places (below 0 (omega arith)) in
      ap (λ (xs : List D). slice_get xs (suc k)) first.2
      ∙ datum_at places k (later_below place places below) (omega (arith, inside))
