use Rattle.std.proofs.Common.{◌≡◌, take}
use Rattle.std.specs.Prelude.{flat_map}
use Rattle.byte_port.specs.Calls.{MovesSome}
use Rattle.line_sender.specs.Pending.{Pending}
use Rattle.report_spec.specs.Graph.{graph_line_text}
use Rattle.icache_top.specs.GraphLines.{graph_lines_of}
use Rattle.icache_top.proofs.graph.send_graph.Given as goal

-- the lines up to here are pending since the beginning, no write has failed, and no count has changed
abbrev pub invariant-loop-node : goal.invariant-loop-node
invariant-loop-node g l = record {
  pending : Pending (g.O.Sink.sent l.initial.out) (g.O.Sink.sent l.out) l.buffer.items
      (flat_map graph_line_text (take l.node (graph_lines_of l.expanded)));
  faults : g.O.Sink.faults l.out ≡ g.O.Sink.faults l.initial.out;
  refusals : g.O.Sink.refusals l.out ≡ g.O.Sink.refusals l.initial.out;
  writes : MovesSome g.O.Sink.writes l.initial.out l.out;
}
