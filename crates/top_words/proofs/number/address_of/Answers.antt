use Rattle.std.proofs.Common.{rules, ◌≡◌, ◌≤◌, ◌∷◌, ◌∙◌, length, true, sym, ap}
use Rattle.std.specs.Char.{is_ascii_hexdigit}
use Rattle.std.specs.List.{list_all}
use Rattle.top_words.proofs.Hex.{parse_hex, address_is, hexadecimal_is}
use Rattle.top_words.proofs.number.address_of.Goals as goal

pub returns : goal.returns
returns c =
    let digits = c.in_ok-digits.digits.now in
    let hex : list_all is_ascii_hexdigit digits ≡ true = search rules in
    let some : 1 ≤ length digits = search rules in
    let short : length digits ≤ 8 = search rules in
    let (n, (two, text, rest), later, long) = c.in_ok-digits.ensures.cases in
    let is : c.args.text.now ≡ 48 ∷ 120 ∷ digits = text ∙ ap (λ left. 48 ∷ 120 ∷ left) (sym later) in
    let value = parse_hex digits _ c.from_str_radix.ensures.value some short hex in
    rw (c.ok.ensures.value, value) (sym (address_is c.args.text.now digits is (hexadecimal_is digits some short hex)))
