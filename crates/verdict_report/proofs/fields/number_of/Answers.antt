use Rattle.std.proofs.Common.{rules, ◌≡◌, decimal, sym, ap, ◌∙◌}
use Rattle.std.specs.Result.{result_ok}
use Rattle.std.proofs.lemmas.Bool.{both_ways}
use Rattle.std.proofs.lemmas.Fmt.{IsAscii-decimal, parse-decimal}
use Rattle.std.proofs.lemmas.Slice.Eq.{bytes_eq-Decides}
use Rattle.std.proofs.lemmas.Str.{IsUtf8-from_ascii}
use Rattle.verdict_report.proofs.Numbers.{number_some, number_none}
use Rattle.verdict_report.proofs.Steps.{given_ok, given_err, same_some}
use Rattle.verdict_report.proofs.fields.number_of.Goals as goal

-- a text that isn't UTF-8 is no number
pub returns-in_err-ok : goal.returns-in_err-ok
returns-in_err-ok c =
    let other = given_err _ _ c.from_utf8.result (sym c.ok.ensures.value ∙ c.in_err-ok.was) c.from_utf8.ensures.cases in
    c.from_residual.ensures ∙ sym (number_none c.args.digits.now
    (λ n fits is. other.1.0 (rw is (IsUtf8-from_ascii (decimal n) (IsAscii-decimal n fits)))))

-- the text of a number is parsed
pub returns-in_err-n : goal.returns-in_err-n
returns-in_err-n c =
    let read = given_ok _ _ c.from_utf8.result c.in_ok-ok.field-0 (sym c.ok.ensures.value ∙ c.in_ok-ok.was)
    c.from_utf8.ensures.cases in
    c.from_residual-in_err-n.ensures ∙ sym (number_none c.args.digits.now (λ n fits is.
    let parsed = parse-decimal 64 n c.in_ok-ok.field-0.now c.parse.result fits fits (read.0 ∙ is)
    c.parse.ensures.value.0 in
    cc (sym c.in_err-n.was ∙ c.ok-2.ensures.value ∙ ap result_ok parsed)))

pub returns-then-eq : goal.returns-then-eq
returns-then-eq c =
    let same : c.as_bytes.result.now ≡ c.args.digits.now =
    (bytes_eq-Decides c.as_bytes.result.now c.args.digits.now).0 (sym c.eq.ensures ∙ c.if-eq.true) in
    let is : c.args.digits.now ≡ decimal c.in_ok-n.n = sym same ∙ c.as_bytes.ensures.value ∙ c.format.ensures.text in
    sym (number_some c.args.digits.now c.in_ok-n.n (search rules) is)

pub returns-else-eq : goal.returns-else-eq
returns-else-eq c =
    let read = given_ok _ _ c.from_utf8.result c.in_ok-ok.field-0 (sym c.ok.ensures.value ∙ c.in_ok-ok.was)
    c.from_utf8.ensures.cases in
    sym (number_none c.args.digits.now (λ n fits is.
    let parsed = parse-decimal 64 n c.in_ok-ok.field-0.now c.parse.result fits fits (read.0 ∙ is)
    c.parse.ensures.value.0 in
    let same : c.in_ok-n.n ≡ n = same_some c.in_ok-n.n n (sym c.in_ok-n.was ∙ c.ok-2.ensures.value ∙ ap result_ok
    parsed) in
    let written : c.as_bytes.result.now ≡ c.args.digits.now =
    c.as_bytes.ensures.value ∙ c.format.ensures.text ∙ ap decimal same ∙ sym is in
    both_ways c.eq.result c.if-eq.false (c.eq.ensures ∙ (bytes_eq-Decides c.as_bytes.result.now c.args.digits.now).1
    written)))
