-- The texts of a line's fields are words, and determine what is written, where numbers fit and choices are letters.
use Rattle.std.proofs.Common.{◌≡◌, ℕ, zero, suc, ◌^◌, ◌/◌, ◌%◌, ◌<◌, true, false, ltb, List, [], ◌∷◌, ◌++◌, length, take, drop, get_or, Option, Some, None, decimal, refl, ap, sym, ◌∙◌, arith, inl, inr}
use Rattle.std.specs.Prelude.{◌==◌, IfSome, codes}
use Rattle.std.specs.Fmt.{digits, digits_onto, digit_glyph}
use Rattle.std.specs.Int.{w32, to_be_bytes, from_be_bytes}
use Rattle.std.specs.List.{list_all}
use Rattle.std.proofs.lemmas.Bool.{cases_Bool, and_from, and_parts}
use Rattle.std.proofs.lemmas.Bool.Decides.{nat_tests}
use Rattle.std.proofs.lemmas.List.{take_at, drop_at}
use Rattle.std.proofs.lemmas.Nat.{from_be_bytes-to_be_bytes_4}
use Rattle.hex.specs.Hex.{IsBytes, decode_of, encode_lower, encode_with, lower_digits}
use Rattle.hex.proofs.HexLemmas.{decode_of-encode_lower}
use Rattle.report_spec.specs.Text.{address_text, choices_text, back_text}
use Rattle.report_spec.specs.Valid.{is_letter}
use Rattle.report_spec.proofs.Addresses.{length-address_text, IsBytes-to_be_bytes}
use Rattle.one_answer.proofs.Tokens.{is_word, word-append}

-- ---- numbers

-- a digit before a word makes a word
digit_word : (digit : ℕ) (after : List ℕ) → is_word after ≡ true → is_word (digit_glyph false digit ∷ after) ≡ true
digit_word digit after is =
    let above : ltb 32 (digit_glyph false digit) ≡ true = grind (arith, nat_tests) in
    and_from (ltb 32 (digit_glyph false digit)) (is_word after) above is

-- so do the digits of a number
digits_word : (k n : ℕ) (after : List ℕ) → is_word after ≡ true → is_word (digits_onto k 10 false n after) ≡ true
digits_word zero n after is = is
digits_word (suc k) n after is = elim (cases_Bool (n / 10 == 0)) [
  | inl last ↦ rw last (digit_word (n % 10) after is)
  | inr more ↦ rw more (digits_word k (n / 10) (digit_glyph false (n % 10) ∷ after) (digit_word (n % 10) after is))
]

-- a number is a word
pub decimal_word : (n : ℕ) → is_word (decimal n) ≡ true
unfolding digits
decimal_word n = digits_word 64 n [] refl

-- ---- addresses

-- each byte of a word is above a space
word_byte : (word : List ℕ) (i : ℕ) → is_word word ≡ true → i < length word → ltb 32 (get_or word i 0) ≡ true
word_byte [] i is inside = absurd (omega (arith, inside))
word_byte (byte ∷ word) zero is inside = (and_parts (ltb 32 byte) (is_word word) is).0
word_byte (byte ∷ word) (suc i) is inside =
    word_byte word i (and_parts (ltb 32 byte) (is_word word) is).1 (omega (arith, inside))

-- the digits of bytes are a word
hex_word : (bytes : List ℕ) → IsBytes bytes → is_word (encode_lower bytes) ≡ true
unfolding encode_with
hex_word [] are = refl
hex_word (byte ∷ bytes) are =
    let small : byte < 256 = are 0 in
    let high = word_byte lower_digits (byte / 16) refl (omega arith) in
    let low = word_byte lower_digits (byte % 16) refl (omega arith) in
    and_from _ _ high (and_from _ _ low (hex_word bytes (λ i. are (suc i))))

-- an address is a word
pub address_word : (p : ℕ) → is_word (address_text p) ≡ true
unfolding address_text
address_word p = hex_word (to_be_bytes w32 p) (IsBytes-to_be_bytes p)

-- an address of 32 bits is determined by its text
pub address_injective : (p q : ℕ) → p < 2 ^ 32 → q < 2 ^ 32 → address_text p ≡ address_text q → p ≡ q
unfolding address_text
address_injective p q fits fits' same =
    let digits : encode_lower (to_be_bytes w32 p) ≡ encode_lower (to_be_bytes w32 q) = cc same in
    let read = sym (decode_of-encode_lower (to_be_bytes w32 p) (IsBytes-to_be_bytes p)) ∙ ap decode_of digits
    ∙ decode_of-encode_lower (to_be_bytes w32 q) (IsBytes-to_be_bytes q) in
    let bytes : to_be_bytes w32 p ≡ to_be_bytes w32 q = cc read in
    sym (from_be_bytes-to_be_bytes_4 p fits) ∙ ap (from_be_bytes w32) bytes ∙ from_be_bytes-to_be_bytes_4 q fits'

-- texts that begin with two addresses begin with one text of an address
pub first_address : (p q : ℕ) (xs ys : List ℕ) → address_text p ++ xs ≡ address_text q ++ ys
    → (address_text p ≡ address_text q) × (xs ≡ ys)
first_address p q xs ys same = (
  sym (take_at (address_text p) xs 10 (length-address_text p)) ∙ ap (take 10) same
      ∙ take_at (address_text q) ys 10 (length-address_text q),
  sym (drop_at (address_text p) xs 10 (length-address_text p)) ∙ ap (drop 10) same
      ∙ drop_at (address_text q) ys 10 (length-address_text q),
)

-- two addresses and the dash between them are a word
pub range_word : (first last : ℕ) → is_word (address_text first ++ (45 ∷ address_text last)) ≡ true
range_word first last =
    word-append (address_text first) (45 ∷ address_text last) (address_word first) (address_word last)

-- ---- newest return addresses

-- a newest return address, or its absence, is a word
pub back_word : (back : Option ℕ) → is_word (back_text back) ≡ true
back_word None = refl
back_word (Some address) = address_word address

-- an address isn't `none`
no_address : (p : ℕ) → codes "none" ≡ address_text p → ⊥
unfolding address_text
no_address p same = cc same

-- and is determined by its text
pub back_injective : (back other : Option ℕ) → IfSome back (λ p. p < 2 ^ 32) → IfSome other (λ p. p < 2 ^ 32)
    → back_text back ≡ back_text other → back ≡ other
back_injective None None fits fits' same = refl
back_injective None (Some q) fits fits' same = absurd (no_address q same)
back_injective (Some p) None fits fits' same = absurd (no_address p (sym same))
back_injective (Some p) (Some q) fits fits' same = ap Some (address_injective p q fits fits' same)

-- ---- choices

-- letters are no dash
letter_no_dash : (letter : ℕ) (letters : List ℕ) → list_all is_letter (letter ∷ letters) ≡ true
    → codes "-" ≡ letter ∷ letters → ⊥
letter_no_dash letter letters are same =
    let parts = and_parts (is_letter letter) (list_all is_letter letters) are in
    let dash : 45 ≡ letter = cc same in
    grind (arith, nat_tests, parts.0, dash)

-- letters are a word
letters_word : (letters : List ℕ) → list_all is_letter letters ≡ true → is_word letters ≡ true
letters_word [] are = refl
letters_word (letter ∷ letters) are =
    let parts = and_parts (is_letter letter) (list_all is_letter letters) are in
    let above : ltb 32 letter ≡ true = grind (arith, nat_tests, parts.0) in
    and_from (ltb 32 letter) (is_word letters) above (letters_word letters parts.1)

-- choices are a word
pub choices_word : (choices : List ℕ) → list_all is_letter choices ≡ true → is_word (choices_text choices) ≡ true
choices_word [] are = refl
choices_word (letter ∷ letters) are = letters_word (letter ∷ letters) are

-- and are determined by their text
pub choices_injective : (choices others : List ℕ) → list_all is_letter choices ≡ true → list_all is_letter others ≡ true
    → choices_text choices ≡ choices_text others → choices ≡ others
choices_injective [] [] are are' same = refl
choices_injective [] (letter ∷ letters) are are' same = absurd (letter_no_dash letter letters are' same)
choices_injective (letter ∷ letters) [] are are' same = absurd (letter_no_dash letter letters are (sym same))
choices_injective (letter ∷ letters) (other ∷ others) are are' same = same
