use Rattle.std.proofs.Common.{[], refl, subst, ◌∙◌, List, ℕ, Err, arith}
use Rattle.std.proofs.lemmas.Result.{on_err_weaker, on_ok_weaker}
use Rattle.std.proofs.lemmas.Grind.{common_steps}
use Rattle.byte_port.proofs.Moves.{MovesSome-none, MovesSome-trans}
use Rattle.line_sender.specs.Pending.{Pending, WritesBy}
use Rattle.line_sender.proofs.Pending.{Pending-start, Appends-pending, SendsPrefix-pending, WritesBy-after}
use Rattle.icache_top.specs.Lines.{SentBefore, StandsIn, layout_of}
use Rattle.icache_top.proofs.Sent.{whole, sent_next, part_sent, none_sent, err_of}
use Rattle.icache_top.proofs.report.send_report.Goals as goal

pub returns-in_err-plan-clause-part : goal.returns-in_err-plan-clause-part
returns-in_err-plan-clause-part g c =
    let found = c.args.found.now in
    err_of c.from_residual.result
    (none_sent c.args.contexts (layout_of found) found.verdicts.now c.requires _)

pub returns-in_err-buffer-clause-part : goal.returns-in_err-buffer-clause-part
returns-in_err-buffer-clause-part g c =
    let found = c.args.found.now in
    err_of c.from_residual-in_err-buffer.result
    (none_sent c.args.contexts (layout_of found) found.verdicts.now c.requires _)

pub loop-cursor-init : goal.loop-cursor-init
loop-cursor-init g c =
    let begun = g.O.Sink.sent c.args.out.now in
    let buffer = c.in_ok-buffer.buffer.items in
    record {
      lines = (
        [],
        λ rest all. all,
        subst (λ (text : List ℕ). Pending begun begun buffer text) c.in_ok-buffer.ensures.items
            (Pending-start begun buffer),
      );
      faults = refl;
      refusals = refl;
      writes = MovesSome-none g.O.Sink.writes c.args.out.now;
    }

pub returns-in_err-cursor-clause-part : goal.returns-in_err-cursor-clause-part
returns-in_err-cursor-clause-part g c =
    let found = c.args.found.now in
    let Before =
    SentBefore g.O.Sink c.args.contexts found c.args.out.now c.loop-cursor.out c.loop-cursor.buffer.items in
    err_of c.from_residual-in_err-cursor.result
    (part_sent c.args.contexts (layout_of found) found.verdicts.now c.requires _ _ _
    c.loop-cursor.buffer.items c.in-Some.from (subst Before c.in-Some.is c.loop-cursor.invariant.lines)
    c.in_err-cursor.ensures.part)

pub returns-in_err-cursor-clause-writes : goal.returns-in_err-cursor-clause-writes
returns-in_err-cursor-clause-writes g c =
    let stop = c.in_err-cursor.field-0.0 in
    let ends : WritesBy {T = Unit {0}} g.O.Sink.writes (Err stop) c.args.out.now c.send_from.new.out =
    WritesBy-after {T = Unit {0}} g.O.Sink.writes (Err stop) c.args.out.now c.loop-cursor.out c.send_from.new.out
    c.loop-cursor.invariant.writes c.in_err-cursor.ensures.writes in
    grind (arith, common_steps, ends)

pub loop-cursor-preserved : goal.loop-cursor-preserved
loop-cursor-preserved g c =
    let found = c.args.found.now in
    let Before =
    SentBefore g.O.Sink c.args.contexts found c.args.out.now c.loop-cursor.out c.loop-cursor.buffer.items in
    record {
      lines = sent_next (StandsIn c.args.contexts found) _ _ _ c.loop-cursor.buffer.items c.send_from.new.buffer.items
          c.in-Some.from c.in_ok-cursor.cursor (subst Before c.in-Some.is c.loop-cursor.invariant.lines)
          c.in_ok-cursor.ensures.pending;
      faults = c.in_ok-cursor.ensures.faults ∙ c.loop-cursor.invariant.faults;
      refusals = c.in_ok-cursor.ensures.refusals ∙ c.loop-cursor.invariant.refusals;
      writes = MovesSome-trans g.O.Sink.writes c.args.out.now c.loop-cursor.out c.send_from.new.out
          c.loop-cursor.invariant.writes c.in_ok-cursor.ensures.writes;
    }

pub returns-clause-whole : goal.returns-clause-whole
returns-clause-whole g c =
    let Before = SentBefore g.O.Sink c.args.contexts c.args.found.now c.args.out.now c.loop-cursor.out
    c.loop-cursor.buffer.items in
    let (lines, before, pending) = subst Before c.in_default.is c.loop-cursor.invariant.lines in
    on_ok_weaker c.finish.result
    (λ rest. (
      lines,
      whole (StandsIn c.args.contexts c.args.found.now) lines before,
      Appends-pending _ _ _ _ _ pending rest,
    ))
    c.finish.ensures.whole

pub returns-clause-part : goal.returns-clause-part
returns-clause-part g c =
    let Before = SentBefore g.O.Sink c.args.contexts c.args.found.now c.args.out.now c.loop-cursor.out
    c.loop-cursor.buffer.items in
    let (lines, before, pending) = subst Before c.in_default.is c.loop-cursor.invariant.lines in
    on_err_weaker c.finish.result
    (λ part. (
      lines,
      whole (StandsIn c.args.contexts c.args.found.now) lines before,
      SendsPrefix-pending _ _ _ _ _ pending part,
    ))
    c.finish.ensures.part

pub returns-clause-writes : goal.returns-clause-writes
returns-clause-writes g c =
    WritesBy-after g.O.Sink.writes c.finish.result c.args.out.now c.loop-cursor.out c.finish.new.out
    c.loop-cursor.invariant.writes c.finish.ensures.writes
