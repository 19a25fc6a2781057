-- Numbers and addresses on the command line. This project's own rules.
use Rattle.std.specs.Prelude.{ℕ, Bool, ◌&&◌, List, length, take, drop, Option, Some, None, nat_le, codes, bytes_eq, if◌then◌else◌}
use Rattle.std.specs.Char.{is_ascii_hexdigit}
use Rattle.std.specs.List.{list_all}
use Rattle.std.specs.Str.{all_ascii_digits}
use Rattle.std.specs.Str.Parse.{digits_value}

-- 1 to 10 decimal digits; leading zeros are allowed, signs aren't
abbrev pub is_number : List ℕ → Bool
is_number text = nat_le 1 (length text) && (nat_le (length text) 10 && all_ascii_digits text)

-- the number that a text spells
abbrev pub number_of : List ℕ → Option ℕ
number_of text = if is_number text then Some (digits_value 10 text) else None

-- 1 to 8 hexadecimal digits of either case
abbrev pub is_hexadecimal : List ℕ → Bool
is_hexadecimal digits = nat_le 1 (length digits) && (nat_le (length digits) 8 && list_all is_ascii_hexdigit digits)

-- the address that a text spells: 0x, and then digits
abbrev pub address_of : List ℕ → Option ℕ
address_of text =
    if bytes_eq (take 2 text) (codes "0x") && is_hexadecimal (drop 2 text) then Some (digits_value 16 (drop 2 text))
    else None
