use Rattle.std.proofs.Common.{rules, ◌≡◌, true}
use Rattle.std.specs.Str.{all_ascii_digits}
use Rattle.top_words.proofs.Digits.{all_by_list, parse_short}
use Rattle.top_words.proofs.number.number_of.Goals as goal

pub returns : goal.returns
returns c =
    let digits : all_ascii_digits c.args.text.now ≡ true = rw (← all_by_list c.args.text.now) (search rules) in
    let value = parse_short c.args.text.now _ c.parse.ensures.value.0 (search rules) (search rules) digits in
    rw (c.ok.ensures.value, value) (search rules)
