use Rattle.std.proofs.Common.{◌≡◌, ℕ, ◌+◌, ◌≤◌, List, ◌++◌, length, take, ap, subst, Err, arith}
use Rattle.std.proofs.lemmas.Grind.{common_steps}
use Rattle.std.proofs.lemmas.Result.{on_ok_weaker, on_err_weaker}
use Rattle.std.specs.Prelude.{flat_map}
use Rattle.byte_port.specs.Stream.{SendsPrefix}
use Rattle.path_model.specs.declared.graph.Node.{Node}
use Rattle.byte_port.proofs.Moves.{MovesSome-trans}
use Rattle.line_sender.specs.Pending.{Pending, WritesBy}
use Rattle.line_sender.proofs.Pending.{Pending-line, SendsPrefix-line, SendsPrefix-pending, Appends-pending, WritesBy-after}
use Rattle.report_spec.specs.Graph.{graph_line_text}
use Rattle.icache_top.specs.GraphLines.{graph_lines_of, graph_text_of}
use Rattle.icache_top.proofs.GraphText.{text-take_more, SendsPrefix-take, take_all}
use Rattle.icache_top.proofs.graph.send_graph.Goals as goal

-- the error came at the line after those that are pending
pub returns-in_err-send_graph_line-clause-part : goal.returns-in_err-send_graph_line-clause-part
returns-in_err-send_graph_line-clause-part g c =
    let e = c.args.expanded.now in
    let i = c.loop-node.node in
    let more : flat_map graph_line_text (take i (graph_lines_of e)) ++ graph_line_text c.line_of.result
    ≡ flat_map graph_line_text (take (i + 1) (graph_lines_of e)) =
    text-take_more (graph_lines_of e) i c.line_of.result c.line_of.ensures in
    let part : SendsPrefix (g.O.Sink.sent c.args.out.now) (g.O.Sink.sent c.send_graph_line.new.out) (graph_text_of e) =
    SendsPrefix-take _ _ _ (i + 1) (rw (← more) (SendsPrefix-line _ _ _ _ _ _ c.loop-node.invariant.pending
    c.in_err-send_graph_line.ensures.part)) in
    grind (arith, common_steps, part)

pub loop-node-preserved : goal.loop-node-preserved
loop-node-preserved g c = record {
  pending = rw (← text-take_more (graph_lines_of c.args.expanded.now) c.loop-node.node c.line_of.result
      c.line_of.ensures)
      (Pending-line _ _ _ _ _ _ _ c.loop-node.invariant.pending c.in_ok-send_graph_line.ensures.pending);
  faults = grind (arith, c.in_ok-send_graph_line.ensures.faults, c.loop-node.invariant.faults);
  refusals = grind (arith, c.in_ok-send_graph_line.ensures.refusals, c.loop-node.invariant.refusals);
  writes = MovesSome-trans g.O.Sink.writes c.args.out.now c.loop-node.out c.send_graph_line.new.out
      c.loop-node.invariant.writes
      c.in_ok-send_graph_line.ensures.writes;
}

pub returns-clause-whole : goal.returns-clause-whole
returns-clause-whole g c =
    let e = c.args.expanded.now in
    let past : length e.nodes ≤ c.loop-node.node = omega (
      arith,
      c.loop-node-test.false,
      ap (λ (nodes : List Node). length nodes) c.nodes.ensures.same,
      ap (λ (nodes : List Node). length nodes)
          c.graph.ensures.same,
      c.graph.ensures.graph.few,
    ) in
    let P : List ℕ → Type 0 = λ text. Pending (g.O.Sink.sent c.args.out.now) (g.O.Sink.sent c.loop-node.out)
    c.loop-node.buffer.items text in
    let all : Pending (g.O.Sink.sent c.args.out.now) (g.O.Sink.sent c.loop-node.out) c.loop-node.buffer.items
    (graph_text_of e) =
    subst P (ap (λ lines. flat_map graph_line_text lines) (take_all e c.loop-node.node c.requires past))
    c.loop-node.invariant.pending in
    on_ok_weaker c.finish.result (λ rest. Appends-pending _ _ _ _ _ all rest) c.finish.ensures.whole

-- the error came at what was left after the last line
pub returns-clause-part : goal.returns-clause-part
returns-clause-part g c =
    on_err_weaker c.finish.result
    (λ part. SendsPrefix-take _ _ (graph_lines_of c.args.expanded.now) c.loop-node.node
    (SendsPrefix-pending _ _ _ _ _ c.loop-node.invariant.pending part))
    c.finish.ensures.part

pub returns-in_err-send_graph_line-clause-writes : goal.returns-in_err-send_graph_line-clause-writes
returns-in_err-send_graph_line-clause-writes g c =
    let stop = c.in_err-send_graph_line.field-0.0 in
    let ends : WritesBy {T = Unit {0}} g.O.Sink.writes (Err stop) c.args.out.now c.send_graph_line.new.out =
    WritesBy-after {T = Unit {0}} g.O.Sink.writes (Err stop) c.args.out.now c.loop-node.out c.send_graph_line.new.out
    c.loop-node.invariant.writes
    c.in_err-send_graph_line.ensures.writes in
    grind (arith, common_steps, ends)

pub returns-clause-writes : goal.returns-clause-writes
returns-clause-writes g c =
    WritesBy-after g.O.Sink.writes c.finish.result c.args.out.now c.loop-node.out c.finish.new.out
    c.loop-node.invariant.writes
    c.finish.ensures.writes
