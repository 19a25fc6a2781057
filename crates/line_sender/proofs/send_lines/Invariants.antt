use Rattle.std.proofs.Common.{◌≡◌, take}
use Rattle.line_sender.specs.Pending.{Pending}
use Rattle.report_spec.specs.Text.{text_of}
use Rattle.byte_port.specs.Calls.{MovesSome}
use Rattle.line_sender.proofs.send_lines.Given as goal

-- the lines up to here are pending since the beginning, no write has failed, and no count has changed
abbrev pub invariant-loop-line : goal.invariant-loop-line
invariant-loop-line g l = record {
  pending : Pending (g.O.Sink.sent l.initial.out) (g.O.Sink.sent l.out) l.buffer.items
      (text_of (take l.line-index l.lines));
  faults : g.O.Sink.faults l.out ≡ g.O.Sink.faults l.initial.out;
  refusals : g.O.Sink.refusals l.out ≡ g.O.Sink.refusals l.initial.out;
  writes : MovesSome g.O.Sink.writes l.initial.out l.out;
}
