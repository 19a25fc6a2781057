use Rattle.std.proofs.Common.{ℕ, inl, inr, refl, subst}
use Rattle.std.specs.Prelude.{Option}
use Rattle.line_sender.proofs.Pending.{Pending-start}
use Rattle.report_spec.specs.declared.line.Line.{Line}
use Rattle.icache_top.specs.Lines.{StandsIn, layout_of}
use Rattle.icache_top.proofs.Sent.{found_valid, found_ways, stands, err_of}
use Rattle.icache_top.proofs.report.send_from.Goals as goal

pub send_line-requires : goal.send_line-requires
send_line-requires g c =
    let valid = rw c.in-Some.is at c.in_ok-line.ensures.valid in
    valid (found_valid c.args.contexts (layout_of c.args.found.now) c.args.found.now.verdicts.now c.requires.found)

pub returns-in-None-clause-pending : goal.returns-in-None-clause-pending
returns-in-None-clause-pending g c =
    let found = c.args.found.now in
    let At : Option (Line × Option ℕ) → Type 0 = StandsIn c.args.contexts found c.args.from in
    let here = stands c.args.contexts (layout_of found) found.verdicts.now c.args.from c.in_ok-line.field-0
    c.in_ok-line.ensures.by_address c.in_ok-line.ensures.by_number in
    inl (subst At c.in-None.is here, refl, Pending-start (g.O.Sink.sent c.args.out.now) c.args.buffer.now.items)

pub returns-in_err-send_line-in-Some-clause-part : goal.returns-in_err-send_line-in-Some-clause-part
returns-in_err-send_line-in-Some-clause-part g c =
    let found = c.args.found.now in
    let At : Option (Line × Option ℕ) → Type 0 = StandsIn c.args.contexts found c.args.from in
    let here = stands c.args.contexts (layout_of found) found.verdicts.now c.args.from c.in_ok-line.field-0
    c.in_ok-line.ensures.by_address c.in_ok-line.ensures.by_number in
    err_of c.from_residual-in_err-send_line-in-Some.result
    (inr (c.in-Some.line, c.in-Some.next, subst At c.in-Some.is here, c.in_err-send_line-in-Some.ensures.part))

pub returns-in_ok-send_line-in-Some-clause-pending : goal.returns-in_ok-send_line-in-Some-clause-pending
returns-in_ok-send_line-in-Some-clause-pending g c =
    let found = c.args.found.now in
    let At : Option (Line × Option ℕ) → Type 0 = StandsIn c.args.contexts found c.args.from in
    let here = stands c.args.contexts (layout_of found) found.verdicts.now c.args.from c.in_ok-line.field-0
    c.in_ok-line.ensures.by_address c.in_ok-line.ensures.by_number in
    inr (c.in-Some.line, subst At c.in-Some.is here, c.in_ok-send_line-in-Some.ensures.pending)

pub line-requires-clause-ways : goal.line-requires-clause-ways
line-requires-clause-ways g c =
    found_ways c.args.contexts (layout_of c.args.found.now) c.args.found.now.verdicts.now c.requires.found
