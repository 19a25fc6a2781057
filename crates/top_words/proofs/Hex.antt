-- Texts of hexadecimal digits: what `from_str_radix` makes of them.
use Rattle.std.proofs.Common.{◌≡◌, ◌≢◌, ◌<◌, ◌≤◌, ◌^◌, ℕ, List, [], ◌∷◌, length, true, Some, Result, Ok, Err, refl, ap, sym, ◌∙◌, subst, arith, get_or}
use Rattle.std.specs.Char.{is_ascii_hexdigit, digit_value}
use Rattle.std.specs.List.{list_all}
use Rattle.std.specs.Str.Parse.{AllDigits, IsNumeral, digits_value, without_leading_plus, ParsesUnsigned}
use Rattle.command_spec.specs.Number.{is_hexadecimal, address_of}
use Rattle.std.proofs.Math.Nat.{pow-le-pow_right}
use Rattle.std.proofs.lemmas.Int.Digits.{digits_value-lt}
use Rattle.std.proofs.lemmas.Str.Parse.{without_leading_plus_none}
use Rattle.std.proofs.lemmas.Bool.Decides.{nat_tests}
use Rattle.std.proofs.lemmas.Bool.{and_parts}

-- a digit's value is below 16
hex_value : (c : ℕ) → is_ascii_hexdigit c ≡ true → digit_value c < 16
hex_value c hex = grind (arith, nat_tests)

all_hex : (text : List ℕ) → list_all is_ascii_hexdigit text ≡ true → AllDigits 16 text
all_hex [] hex = tt
all_hex (c ∷ text) hex =
    (hex_value c (and_parts (is_ascii_hexdigit c) _ hex).0, all_hex text (and_parts (is_ascii_hexdigit c) _ hex).1)

-- none of them is a plus
no_plus : (text : List ℕ) → 1 ≤ length text → list_all is_ascii_hexdigit text ≡ true → get_or text 0 0 ≢ 43
no_plus [] some hex = absurd (omega arith)
no_plus (c ∷ text) some hex = λ plus.
    let P : ℕ → Type 0 = λ c. is_ascii_hexdigit c ≡ true in
    let is : is_ascii_hexdigit 43 ≡ true = subst P plus (and_parts (is_ascii_hexdigit c) _ hex).0 in cc is

power : (n : ℕ) → n ≤ 8 → 16 ^ n ≤ 2 ^ 32
power n below = let some : 0 < 16 = omega arith in pow-le-pow_right some below

gives : {E : Type 0} (digits : List ℕ) (r : Result ℕ E) → IsNumeral 16 digits → digits_value 16 digits < 2 ^ 32
    → ParsesUnsigned 32 16 digits r → without_leading_plus digits ≡ digits → r ≡ Ok (digits_value 16 digits)
gives digits (Ok value) numeral below parsed same = ap Ok (parsed.1 ∙ ap (digits_value 16) same)
gives digits (Err e) numeral below parsed same =
    let P : List ℕ → Type 0 = λ ds. IsNumeral 16 ds × (digits_value 16 ds < 2 ^ 32) in
    absurd (parsed (subst P (sym same) (numeral, below)))

-- 1 to 8 digits are read as their value, since it is below 2 ^ 32
pub parse_hex : {E : Type 0} (text : List ℕ) (r : Result ℕ E) → ParsesUnsigned 32 16 text r → 1 ≤ length text
    → length text ≤ 8
    → list_all is_ascii_hexdigit text ≡ true → r ≡ Ok (digits_value 16 text)
parse_hex text r parsed some short hex =
    let digits = all_hex text hex in
    gives text r (omega (arith), digits) (omega (arith, digits_value-lt 16 text digits, power (length text) short))
    parsed
    (without_leading_plus_none text (no_plus text some hex))

-- the digits after 0x are what an address is read from
pub address_is : (text digits : List ℕ) → text ≡ 48 ∷ 120 ∷ digits → is_hexadecimal digits ≡ true
    → address_of text ≡ Some (digits_value 16 digits)
address_is text digits is hex = rw is (rw hex refl)

-- as the tests of the length and of the digits tell
pub hexadecimal_is : (digits : List ℕ) → 1 ≤ length digits → length digits ≤ 8
    → list_all is_ascii_hexdigit digits ≡ true
    → is_hexadecimal digits ≡ true
hexadecimal_is digits some short hex = rw hex (grind (arith, nat_tests))
