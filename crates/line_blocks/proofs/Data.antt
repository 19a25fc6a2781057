-- Lists of data: the data at places of a list, and one for each number.
use Rattle.std.proofs.Common.{◌≡◌, ℕ, zero, suc, ◌<◌, List, [], ◌∷◌, length, Option, Some, refl, ap, sym, ◌∙◌, arith}
use Rattle.std.specs.Prelude.{slice_get}
use Rattle.std.specs.List.{cons_option}
use Rattle.std.proofs.lemmas.Option.{same_Some}
use Rattle.list_lemmas.proofs.Members.{found-inside}
use Rattle.line_blocks.specs.declared.plan.Run.{Run}
use Rattle.line_blocks.specs.Alike.{head_data}

-- what a function gives of each number below the count
pub table : {D : Type 0} → (ℕ → D) → ℕ → List D
table f zero = []
table f (suc count) = f 0 ∷ table (λ k. f (suc k)) count

-- there is one for each number
pub length-table : {D : Type 0} (f : ℕ → D) (count : ℕ) → length (table f count) ≡ count
unfolding table
length-table f zero = refl
length-table f (suc count) = ap suc (length-table (λ k. f (suc k)) count)

-- and it stands at the place of that number
pub table_at : {D : Type 0} (f : ℕ → D) (count n : ℕ) → n < count → slice_get (table f count) n ≡ Some (f n)
unfolding table
table_at f zero n inside = absurd (omega (arith, inside))
table_at f (suc count) zero inside = refl
table_at f (suc count) (suc n) inside = table_at (λ k. f (suc k)) count n (omega (arith, inside))

-- the first node of each run has a datum
abbrev pub HaveData : {D : Type 0} → List D → List Run → Type 0
HaveData held runs = (p : ℕ) (run : Run) → slice_get runs p ≡ Some run → run.head < length held

module _ {D : Type 0} (held : List D) where
  -- the same of the runs after the first one
  later_data : (run : Run) (runs : List Run) → HaveData held (run ∷ runs) → HaveData held runs
  later_data run runs have p other at = have (suc p) other at

  -- the datum at the first node of the first run stands first
  first_datum : (run : Run) (runs : List Run) → run.head < length held
      → (x : D) × (slice_get held run.head ≡ Some x) × (head_data held (run ∷ runs) ≡ x ∷ head_data held runs)
  first_datum run runs inside =
      let found = found-inside held run.head inside in
      (found.0, found.1, ap (λ (o : Option D). cons_option o (head_data held runs)) found.1)

  -- there is a datum for each run
  pub length-head_data : (runs : List Run) → HaveData held runs → length (head_data held runs) ≡ length runs
  length-head_data [] have = refl
  length-head_data (run ∷ runs) have =
      let first = first_datum run runs (have 0 run refl) in
      let rest = length-head_data runs (later_data run runs have) in
      omega (arith, ap length first.2, rest)

  -- and it is that at the run's first node
  pub head_datum_at : (runs : List Run) (p : ℕ) (run : Run) → HaveData held runs → slice_get runs p ≡ Some run
      → slice_get (head_data held runs) p ≡ slice_get held run.head
  head_datum_at [] p run have at = absurd (cc)
  head_datum_at (run ∷ runs) zero same have at =
      let first = first_datum run runs (have 0 run refl) in
      ap (λ (xs : List D). slice_get xs 0) first.2
      ∙ (sym first.1 ∙ ap (λ (one : Run). slice_get held one.head) (same_Some run same at))
  head_datum_at (run ∷ runs) (suc p) other have at =
      let first = first_datum run runs (have 0 run refl) in
      ap (λ (xs : List D). slice_get xs (suc p)) first.2
      ∙ head_datum_at runs p other (later_data run runs have) at
