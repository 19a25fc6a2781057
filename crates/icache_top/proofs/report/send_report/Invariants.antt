use Rattle.std.proofs.Common.{◌≡◌}
use Rattle.byte_port.specs.Calls.{MovesSome}
use Rattle.icache_top.specs.Lines.{SentBefore, left_from}
use Rattle.icache_top.proofs.report.send_report.Given as goal

-- the lines before a cursor are sent or pending, no write has failed, and no count has changed
abbrev pub invariant-loop-cursor : goal.invariant-loop-cursor
invariant-loop-cursor g l = record {
  lines : SentBefore g.O.Sink l.contexts l.found l.initial.out l.out l.buffer.items l.cursor;
  faults : g.O.Sink.faults l.out ≡ g.O.Sink.faults l.initial.out;
  refusals : g.O.Sink.refusals l.out ≡ g.O.Sink.refusals l.initial.out;
  writes : MovesSome g.O.Sink.writes l.initial.out l.out;
}

abbrev pub decreases-loop-cursor : goal.decreases-loop-cursor
decreases-loop-cursor g l = left_from l.cursor
