-- The addresses of a program's words, or parcels, are its text.
use Rattle.std.proofs.Common.{◌≡◌, ℕ, ◌+◌, ◌-◌, ◌*◌, ◌/◌, ◌%◌, ◌<◌, List, length, refl, subst, sym, ◌∙◌, arith, Option, Some, None}
use Rattle.std.specs.Prelude.{Bool, true, false, ◌↔◌, ◌==◌, Contains, is_some, option_map, if◌then◌else◌}
use Rattle.std.proofs.lemmas.Bool.Decides.{nat_tests}
use Rattle.elf_spec.specs.declared.segment.Segment.{Segment}
use Rattle.elf_spec.specs.Number.{u16_at, u32_at}
use Rattle.elf_spec.specs.Parcel.{parcel_at, HasParcel}
use Rattle.elf_spec.specs.Word.{has_bytes, word_at, HasWord}
use Rattle.flow_spec.specs.declared.instruction.Instruction.{Instruction}
use Rattle.flow_spec.specs.declared.instruction.Instruction.TheVariants.{Word}
use Rattle.report_spec.specs.Inner.{IsInner, HasLine}
use Rattle.report_spec.specs.Report.{addresses_from}
use Rattle.report_lines.proofs.Steps.{after, address_place, address_among, words_after, parcels_after}
use Rattle.worked_examples.specs.Programs.{program_of, file_of, as_words}

both : (whole has : Bool) (f : Segment → ℕ) (s : Segment)
    → is_some (if whole then option_map f (if has then Some s else None) else None) ≡ true
    → (whole ≡ true) × (has ≡ true)
both true true f s h = (refl, refl)
both true false f s h = cc
both false has f s h = cc

module _ (words : List ℕ) where
  -- the one segment
  abbrev block : Segment
  block = record { at = 0x10000; size = 4 * length words; offset = 84 }

  -- the addresses of the words
  abbrev pub places : List ℕ
  places = addresses_from 4 0x10000 (length words)

  inside : (p : ℕ) → HasWord (program_of words) p → ((p % 4 == 0) ≡ true) × (has_bytes 4 p block ≡ true)
  unfolding word_at
  inside p text =
      both (p % 4 == 0) (has_bytes 4 p block) (λ s. u32_at (file_of words) (s.offset + (p - s.at))) block text

  place_of : (p : ℕ) → (p % 4 == 0) ≡ true → has_bytes 4 p block ≡ true → Contains places p
  place_of p whole has =
      let i = (p - 0x10000) / 4 in
      let same : after 4 0x10000 i ≡ p = words_after 0x10000 i ∙ grind (arith, nat_tests) in
      let below : i < length words = grind (arith, nat_tests) in
      subst (Contains places) same (address_among 4 0x10000 (length words) i below)

  has_word : (i : ℕ) → i < length words → HasWord (program_of words) (0x10000 + 4 * i)
  unfolding word_at
  has_word i below =
      let p = 0x10000 + 4 * i in
      let whole : (p % 4 == 0) ≡ true = grind (arith, nat_tests) in
      let has : has_bytes 4 p block ≡ true = grind (arith, nat_tests) in
      rw (whole, has) refl

  -- so these are all words
  all_words : (p : ℕ) → Contains places p ↔ HasWord (program_of words) p
  all_words p = (
    λ has. let (i, below, at) = address_place 4 0x10000 (length words) p has in
        subst (HasWord (program_of words)) (sym (at ∙ words_after 0x10000 i)) (has_word i below),
    λ text. let at = inside p text in place_of p at.0 at.1,
  )

  -- the addresses of the parcels
  abbrev pub parcel_places : List ℕ
  parcel_places = addresses_from 2 0x10000 (2 * length words)

  parcel_inside : (p : ℕ) → HasParcel (program_of words) p → ((p % 2 == 0) ≡ true) × (has_bytes 2 p block ≡ true)
  unfolding parcel_at
  parcel_inside p text =
      both (p % 2 == 0) (has_bytes 2 p block) (λ s. u16_at (file_of words) (s.offset + (p - s.at))) block text

  -- a parcel is at one of these
  pub parcel_place : (p : ℕ) → HasParcel (program_of words) p → Contains parcel_places p
  parcel_place p text =
      let (whole, has) = parcel_inside p text in
      let i = (p - 0x10000) / 2 in
      let same : after 2 0x10000 i ≡ p = parcels_after 0x10000 i ∙ grind (arith, nat_tests) in
      let below : i < 2 * length words = grind (arith, nat_tests) in
      subst (Contains parcel_places) same (address_among 2 0x10000 (2 * length words) i below)

-- where an instruction is read from a word, the word is there
instruction_word : (o : Option ℕ) (found : Instruction) → option_map Word o ≡ Some found → is_some o ≡ true
instruction_word None found is = absurd (cc is)
instruction_word (Some word) found is = refl

-- no address of a program of words is inner: it would be two bytes after another word
never_inner : (line : ℕ) (words : List ℕ) (p : ℕ) → IsInner (as_words line words) p → ⊥
never_inner line words p inner =
    let (code, is) = inner.four_bytes in
    let here = (inside words p inner.text).0 in
    let before = (inside words inner.begins (instruction_word (word_at (program_of words) inner.begins) (Word code) is)).0
    in
    let middle = inner.middle in
    grind (arith, nat_tests, here, before, middle)

-- so all words have a line, and nothing else has one
pub all_lines : (line : ℕ) (words : List ℕ) (p : ℕ) → Contains (places words) p ↔ HasLine (as_words line words) p
all_lines line words p = (
  λ has. ((all_words words p).0 has, never_inner line words p),
  λ line. (all_words words p).1 line.0,
)
