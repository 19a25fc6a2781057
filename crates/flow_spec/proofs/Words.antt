-- Without compressed instructions, control may go on to the next word wherever there is one.
use Rattle.std.proofs.Common.{◌≡◌, ℕ, ◌+◌, ◌-◌, ◌%◌, ◌^◌, ◌<◌, Bool, true, false, Option, Some, None, refl, sym, subst, eq-eqb, arith, ◌&&◌, ◌||◌, not, ◌==◌}
use Rattle.std.specs.Prelude.{option_map, option_and_then}
use Rattle.elf_spec.specs.Image.{Image}
use Rattle.elf_spec.specs.Word.{word_at, has_word}
use Rattle.riscv_spec.specs.declared.parcel.Isa.TheVariants.{Rv32i}
use Rattle.flow_spec.specs.declared.instruction.Instruction.TheVariants.{Word}
use Rattle.flow_spec.specs.Instruction.{address_after}
use Rattle.flow_spec.specs.Transfer.{before, word_of, second_half, is_second_half, is_good_next}

-- the word is what may be a second half
word-half : (word : Option ℕ) → option_and_then word_of (option_map Word word) ≡ word
word-half None = refl
word-half (Some word) = refl

pub second-word : (image : Image) (at : ℕ) → second_half Rv32i image at ≡ word_at image at
second-word image at = word-half (word_at image at)

-- the word before the next one is the one before it
before-after : (at word : ℕ) → at < 2 ^ 32 → before (address_after at (Word word)) ≡ at
before-after at word below = omega (arith, below)

-- a test that need not decide
either-true : (a b c : Bool) → c ≡ true → (a && (not b || c)) ≡ a
either-true true true c is = is
either-true true false c is = refl
either-true false b c is = refl

pub next-word : (image : Image) (at word : ℕ) → at < 2 ^ 32
    → is_good_next Rv32i image at (address_after at (Word word)) ≡ has_word image (address_after at (Word word))
next-word image at word below =
    let next = address_after at (Word word) in
    either-true (has_word image next) (is_second_half Rv32i image next) (before next == at)
    (eq-eqb (before next) at (before-after at word below))
