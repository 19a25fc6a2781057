use Rattle.std.proofs.Common.{refl, sym, ◌∙◌}
use Rattle.verdict_report.proofs.Steps.{ok_is}
use Rattle.verdict_report.proofs.Addresses.{address_is}
use Rattle.verdict_report.proofs.fields.address_of.Goals as goal

pub returns-then-eq : goal.returns-then-eq
returns-then-eq c =
    let decoded = sym c.from_hex.ensures ∙ ok_is c.from_hex.result c.in_ok-ok.field-0
    (sym c.ok.ensures.value ∙ c.in_ok-ok.was) in
    let p = c.from_be_bytes-p.result in
    sym (address_is c.args.prefix.now c.in_ok-ok.field-0 p c.eq.result decoded (sym c.from_be_bytes-p.ensures)
    (rw (← c.address_text.ensures) c.eq.ensures)
    ∙ rw c.if-eq.true refl)

pub returns-else-eq : goal.returns-else-eq
returns-else-eq c =
    let decoded = sym c.from_hex.ensures ∙ ok_is c.from_hex.result c.in_ok-ok.field-0
    (sym c.ok.ensures.value ∙ c.in_ok-ok.was) in
    let p = c.from_be_bytes-p.result in
    sym (address_is c.args.prefix.now c.in_ok-ok.field-0 p c.eq.result decoded (sym c.from_be_bytes-p.ensures)
    (rw (← c.address_text.ensures) c.eq.ensures)
    ∙ rw c.if-eq.false refl)
