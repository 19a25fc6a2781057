use Rattle.std.proofs.Common.{◌≡◌, ◌+◌, ◌++◌, take, Err, arith}
use Rattle.std.proofs.lemmas.Grind.{common_steps}
use Rattle.std.proofs.lemmas.Result.{on_err_weaker}
use Rattle.byte_port.specs.Stream.{SendsPrefix}
use Rattle.report_spec.specs.Text.{line_text, text_of}
use Rattle.byte_port.proofs.Moves.{MovesSome-trans}
use Rattle.line_sender.specs.Pending.{WritesBy}
use Rattle.line_sender.proofs.Pending.{Pending-line, SendsPrefix-line, SendsPrefix-pending, WritesBy-after}
use Rattle.line_sender.proofs.Text.{text_of-take_more, SendsPrefix-take}
use Rattle.line_sender.proofs.send_lines.Goals as goal

-- the error came at the line after those that are pending
pub returns-in_err-send_line-clause-part : goal.returns-in_err-send_line-clause-part
returns-in_err-send_line-clause-part g c =
    let i = c.loop-line.line-index in
    let more : text_of (take i c.args.lines.now) ++ line_text c.line-item.result
    ≡ text_of (take (i + 1) c.args.lines.now) =
    text_of-take_more _ i c.line-item.result c.loop-line-test.true c.line-item.is in
    let part : SendsPrefix (g.O.Sink.sent c.args.out.now) (g.O.Sink.sent c.send_line.new.out)
    (text_of c.args.lines.now) =
    SendsPrefix-take _ _ _ (i + 1) (rw (← more) (SendsPrefix-line _ _ _ _ _ _ c.loop-line.invariant.pending
    c.in_err-send_line.ensures.part)) in
    grind (arith, common_steps, part)

pub loop-line-preserved : goal.loop-line-preserved
loop-line-preserved g c = record {
  pending = rw (← text_of-take_more _ c.loop-line.line-index c.line-item.result c.loop-line-test.true c.line-item.is)
      (Pending-line _ _ _ _ _ _ _ c.loop-line.invariant.pending c.in_ok-send_line.ensures.pending);
  faults = grind (arith, c.in_ok-send_line.ensures.faults, c.loop-line.invariant.faults);
  refusals = grind (arith, c.in_ok-send_line.ensures.refusals, c.loop-line.invariant.refusals);
  writes = MovesSome-trans g.O.Sink.writes c.args.out.now c.loop-line.out c.send_line.new.out
      c.loop-line.invariant.writes
      c.in_ok-send_line.ensures.writes;
}

-- the error came at what was left after the last line
pub returns-clause-part : goal.returns-clause-part
returns-clause-part g c =
    on_err_weaker c.finish.result
    (λ part. SendsPrefix-take _ _ _ c.loop-line.line-index
    (SendsPrefix-pending _ _ _ _ _ c.loop-line.invariant.pending part))
    c.finish.ensures.part

pub returns-in_err-send_line-clause-writes : goal.returns-in_err-send_line-clause-writes
returns-in_err-send_line-clause-writes g c =
    let stop = c.in_err-send_line.field-0.0 in
    let ends : WritesBy {T = Unit {0}} g.O.Sink.writes (Err stop) c.args.out.now c.send_line.new.out =
    WritesBy-after {T = Unit {0}} g.O.Sink.writes (Err stop) c.args.out.now c.loop-line.out c.send_line.new.out
    c.loop-line.invariant.writes
    c.in_err-send_line.ensures.writes in
    grind (arith, common_steps, ends)

pub returns-clause-writes : goal.returns-clause-writes
returns-clause-writes g c =
    WritesBy-after g.O.Sink.writes c.finish.result c.args.out.now c.loop-line.out c.finish.new.out
    c.loop-line.invariant.writes
    c.finish.ensures.writes
