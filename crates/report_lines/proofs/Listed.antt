-- Addresses that have a line, listed in rising order.
use Rattle.std.proofs.Common.{◌≡◌, ℕ, zero, suc, ◌+◌, ◌%◌, ◌<◌, ◌≤◌, List, [], ◌∷◌, ◌++◌, refl, subst, sym, arith, inl, inr, Some, None}
use Rattle.std.specs.Prelude.{Bool, true, false, ◌==◌, Contains, slice_index_or}
use Rattle.std.specs.List.{AllByRecursion}
use Rattle.std.specs.List.Sorted.{IsStrictlyIncreasing}
use Rattle.std.proofs.lemmas.Bool.{cases_lt}
use Rattle.std.proofs.lemmas.Bool.Decides.{nat_tests}
use Rattle.list_lemmas.proofs.Members.{has-first, has-later, has-cases}
use Rattle.elf_spec.specs.Image.{Image}
use Rattle.elf_spec.specs.Word.{word_at, has_word, HasWord}
use Rattle.elf_spec.specs.Parcel.{parcel_at, has_parcel, HasParcel}
use Rattle.riscv_spec.specs.declared.parcel.Isa.{Isa}
use Rattle.riscv_spec.specs.declared.parcel.Isa.TheVariants.{Rv32i, Rv32ic}
use Rattle.flow_spec.specs.Instruction.{IsText}
use Rattle.report_spec.specs.Inner.{step_of}
use Rattle.report_spec.specs.Report.{addresses_from}
use Rattle.node_spec.specs.Plan.{Layout, HasLineIn, IsNextLine}
use Rattle.report_lines.proofs.Steps.{after, step_some}

-- a number below all of a rising list comes before it
rising_cons : (x : ℕ) (xs : List ℕ) → IsStrictlyIncreasing xs → ((y : ℕ) → Contains xs y → x < y)
    → IsStrictlyIncreasing (x ∷ xs)
rising_cons x [] rising below k inside = absurd (omega (arith, inside))
rising_cons x (y ∷ xs) rising below zero inside = below y (has-first y xs)
rising_cons x (y ∷ xs) rising below (suc k) inside =
    let next : suc k + 1 ≡ suc (k + 1) = omega arith in
    subst (λ (i : ℕ). slice_index_or (y ∷ xs) k 0 < slice_index_or (x ∷ y ∷ xs) i 0) (sym next)
    (rising k (omega (arith, inside)))

-- the address of a word is a multiple of 4: by the test
whole_word : (image : Image) (p : ℕ) (whole : Bool) → (p % 4 == 0) ≡ whole → has_word image p ≡ true → p % 4 ≡ 0
unfolding word_at
whole_word image p true whole text = grind (arith, nat_tests)
whole_word image p false whole text = let none : has_word image p ≡ false = rw whole refl in absurd (cc (text, none))

-- that of a parcel is one of 2
whole_parcel : (image : Image) (p : ℕ) (whole : Bool) → (p % 2 == 0) ≡ whole → has_parcel image p ≡ true → p % 2 ≡ 0
unfolding parcel_at
whole_parcel image p true whole text = grind (arith, nat_tests)
whole_parcel image p false whole text =
    let none : has_parcel image p ≡ false = rw whole refl in absurd (cc (text, none))

-- the same without the test
word_aligned : (image : Image) (p : ℕ) → HasWord image p → p % 4 ≡ 0
word_aligned image p text = whole_word image p (p % 4 == 0) refl text

parcel_aligned : (image : Image) (p : ℕ) → HasParcel image p → p % 2 ≡ 0
parcel_aligned image p text = whole_parcel image p (p % 2 == 0) refl text

-- two addresses of a text stand at least a step apart
text_apart : (isa : Isa) (image : Image) (p x : ℕ) → IsText isa image p → IsText isa image x → p < x
    → p + step_of isa ≤ x
text_apart Rv32i image p x text x_text less =
    let whole = word_aligned image p text in
    let x_whole = word_aligned image x x_text in omega (arith, less, whole, x_whole)
text_apart Rv32ic image p x text x_text less =
    let whole = parcel_aligned image p text in
    let x_whole = parcel_aligned image x x_text in omega (arith, less, whole, x_whole)

-- the list has exactly the addresses with a line from one on, and it rises
pub record IsListed (layout : Layout) (from : ℕ) (addresses : List ℕ) : Type 0 where
  pub rising : IsStrictlyIncreasing addresses
  pub sound : (x : ℕ) → Contains addresses x → HasLineIn layout x × (from ≤ x)
  pub complete : (x : ℕ) → HasLineIn layout x → from ≤ x → Contains addresses x

module _ (layout : Layout) where
  -- where none is left none is listed
  pub listed_none : (from : ℕ) → IsNextLine layout from None → IsListed layout from []
  listed_none from none = record {
    rising = λ k inside. absurd (omega (arith, inside));
    sound = λ x (k, below, is). absurd (omega (arith, below));
    complete = λ x line at. absurd (none x at line);
  }

  -- what begins after an address begins at the next one
  pub listed_from_next : (from p : ℕ) (addresses : List ℕ) → IsNextLine layout from (Some p) → IsListed layout p addresses
      → IsListed layout from addresses
  listed_from_next from p addresses next listed = record {
    rising = listed.rising;
    sound = λ x has. let it = listed.sound x has in (it.0, omega (arith, it.1, next.1));
    complete = λ x line at. listed.complete x line (next.2 x at line);
  }

  -- one address more before the others
  pub listed_one : (p : ℕ) (addresses : List ℕ) → HasLineIn layout p → IsListed layout (p + 1) addresses
      → IsListed layout p (p ∷ addresses)
  listed_one p addresses line listed = record {
    rising = rising_cons p addresses listed.rising (λ y has. let at = (listed.sound y has).1 in omega (arith, at));
    sound = λ x has. elim (has-cases p x addresses has) [
      | inl same ↦ (subst (HasLineIn layout) (sym same) line, omega (arith, same))
      | inr later ↦ let it = listed.sound x later in (it.0, omega (arith, it.1))
    ];
    complete = λ x x_line from. elim (cases_lt p x) [
      | inl beyond ↦ has-later p x addresses (listed.complete x x_line (omega (arith, beyond)))
      | inr before ↦
          let same : p ≡ x = omega (arith, before, from) in
          subst (λ (y : ℕ). Contains (p ∷ addresses) y) same (has-first p addresses)
    ];
  }

  -- nothing lies within a step after an address with a line
  listed_step : (p : ℕ) (addresses : List ℕ) → HasLineIn layout p → IsListed layout (p + step_of layout.isa) addresses
      → IsListed layout (p + 1) addresses
  listed_step p addresses line listed = record {
    rising = listed.rising;
    sound = λ x has. let it = listed.sound x has in (it.0, omega (arith, it.1, step_some layout.isa));
    complete = λ x x_line at. listed.complete x x_line
        (text_apart layout.isa layout.image p x line.0 x_line.0 (omega (arith, at)));
  }

  -- addresses that all have a line, before those after them
  pub listed_range : (p n : ℕ) (addresses : List ℕ)
      → AllByRecursion (HasLineIn layout) (addresses_from (step_of layout.isa) p (suc n))
      → IsListed layout (after (step_of layout.isa) p n + 1) addresses
      → IsListed layout p (addresses_from (step_of layout.isa) p (suc n) ++ addresses)
  listed_range p zero addresses all listed = listed_one p addresses all.0 listed
  listed_range p (suc n) addresses all listed =
      listed_one p (addresses_from (step_of layout.isa) (p + step_of layout.isa) (suc n) ++ addresses) all.0
      (listed_step p (addresses_from (step_of layout.isa) (p + step_of layout.isa) (suc n) ++ addresses) all.0
      (listed_range (p + step_of layout.isa) n addresses all.1 listed))
