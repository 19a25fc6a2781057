use Rattle.std.proofs.Common.{Err, arith}
use Rattle.std.proofs.lemmas.Grind.{common_steps}
use Rattle.byte_port.specs.Calls.{EndsWith}
use Rattle.byte_port.proofs.Bytes.{Appends-take}
use Rattle.byte_port.proofs.Moves.{MovesSome-none, MovesSome-more}
use Rattle.byte_port.proofs.streams.send_all.Goals as goal

pub loop-at-init : goal.loop-at-init
loop-at-init g c = let none = MovesSome-none g.O.Sink.writes c.args.out.now in grind (arith, common_steps, none)

-- the write that failed or was refused is the last one
pub returns-in_err-at-clause-writes : goal.returns-in_err-at-clause-writes
returns-in_err-at-clause-writes g c =
    let ends : EndsWith g.O.Sink.writes (Err c.in_err-at.field-0.0) c.args.out.now c.write.new.self =
    (c.loop-at.out, c.loop-at.invariant.writes, c.in_err-at.ensures.step) in
    grind (arith, common_steps, ends)

pub loop-at-preserved : goal.loop-at-preserved
loop-at-preserved g c = record {
  within = grind (arith, common_steps, c.in_ok-at.ensures.some);
  sent = Appends-take _ _ _ _ _ _ c.loop-at.invariant.sent c.in_ok-at.ensures.bytes;
  faults = grind (arith, c.in_ok-at.ensures.faults, c.loop-at.invariant.faults);
  refusals = grind (arith, c.in_ok-at.ensures.refusals, c.loop-at.invariant.refusals);
  writes = MovesSome-more g.O.Sink.writes c.args.out.now c.loop-at.out c.write.new.self c.in_ok-at.field-0
      c.loop-at.invariant.writes
      (grind (arith, common_steps, c.in_ok-at.ensures.some)) c.in_ok-at.ensures.step;
}
