use Rattle.std.proofs.Common.{length, take, ◌-◌, ◌≡◌, ◌≤◌}
use Rattle.std.specs.Io.KnownBytes.{Appends}
use Rattle.byte_port.specs.Calls.{MovesSome}
use Rattle.byte_port.proofs.streams.send_all.Given as goal

-- the first `at` bytes of the text were sent, each write took some of them, and no count has changed
abbrev pub invariant-loop-at : goal.invariant-loop-at
invariant-loop-at g l = record {
  within : l.at ≤ length l.text;
  sent : Appends (g.O.Sink.sent l.initial.out) (g.O.Sink.sent l.out) (take l.at l.text);
  faults : g.O.Sink.faults l.out ≡ g.O.Sink.faults l.initial.out;
  refusals : g.O.Sink.refusals l.out ≡ g.O.Sink.refusals l.initial.out;
  writes : MovesSome g.O.Sink.writes l.initial.out l.out;
}

abbrev pub decreases-loop-at : goal.decreases-loop-at
decreases-loop-at g l = length l.text - l.at
