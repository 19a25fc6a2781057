use Rattle.std.proofs.Common.{rules, tests, ◌≡◌, None, sym, ◌∙◌}
use Rattle.std.proofs.lemmas.Iterator.{YieldsList-from_slice}
use Rattle.std.proofs.lemmas.Iterator.Search.{position_from_yields_List}
use Rattle.verdict_report.specs.Reading.{field_at}
use Rattle.verdict_report.proofs.FieldEnds.{is_end, no_field, word_found}
use Rattle.verdict_report.proofs.fields.field_at.Goals as goal

pub returns-in_err-at : goal.returns-in_err-at
returns-in_err-at c =
    let found = position_from_yields_List (is_end c.args.end) _ _ c.position.result c.position.ensures.ran
    (YieldsList-from_slice _ c.iter.ensures.rest) (λ x b q k. search (rules, tests)) in
    let none : field_at c.args.end c.args.text.now ≡ None =
    no_field c.args.end c.args.text.now (sym found ∙ c.in_err-at.was) in
    rw (c.from_residual.ensures, none) (search rules)

pub returns : goal.returns
returns c =
    let found = position_from_yields_List (is_end c.args.end) _ _ c.position.result c.position.ensures.ran
    (YieldsList-from_slice _ c.iter.ensures.rest) (λ x b q k. search (rules, tests)) in
    word_found c.args.end c.args.text.now c.in_ok-at.at (sym found ∙ c.in_ok-at.was)
