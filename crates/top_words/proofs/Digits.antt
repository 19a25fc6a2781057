-- Texts of decimal digits: how `all` tells them, and what `parse` makes of them.
use Rattle.std.proofs.Common.{◌≡◌, ◌≤◌, ℕ, ◌&&◌, List, [], ◌∷◌, length, true, Result, Ok, refl, ap, arith}
use Rattle.std.specs.Char.{is_ascii_digit}
use Rattle.std.specs.List.{list_all}
use Rattle.std.specs.Str.{all_ascii_digits}
use Rattle.std.specs.Str.Parse.{digits_value, ParsesUnsigned}
use Rattle.std.proofs.lemmas.Str.Parse.{IsNumeralModel, numerals_by_value, tells_all_ascii_digits, parse_gives, digits_value_short}

-- a text that `all` finds to be of digits is one of digits
pub all_by_list : (text : List ℕ) → list_all is_ascii_digit text ≡ all_ascii_digits text
all_by_list [] = refl
all_by_list (digit ∷ text) = ap (λ rest. is_ascii_digit digit && rest) (all_by_list text)

-- std's own words are a model of numerals
own : IsNumeralModel (λ text. all_ascii_digits text ≡ true) (digits_value 10)
own = numerals_by_value _ tells_all_ascii_digits

-- 1 to 10 digits are read as their value, since it is below 2 ^ 64
pub parse_short : {E : Type 0} (text : List ℕ) (r : Result ℕ E) → ParsesUnsigned 64 10 text r → 1 ≤ length text
    → length text ≤ 10 → all_ascii_digits text ≡ true → r ≡ Ok (digits_value 10 text)
parse_short text r parsed some short digits =
    parse_gives own 64 text r parsed digits (omega arith) (omega (arith, digits_value_short own text 10 digits short))
