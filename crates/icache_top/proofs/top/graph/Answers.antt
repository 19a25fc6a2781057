use Rattle.std.proofs.Common.{sym}
use Rattle.std.proofs.lemmas.Slice.Zip.{AllZip-long}
use Rattle.command_spec.specs.declared.settings.Ask.TheVariants.{Graph}
use Rattle.icache_top.specs.Answer.{program_for}
use Rattle.icache_top.specs.GraphLines.{graph_text_of}
use Rattle.icache_top.proofs.SendsFor.{sent_reported, flow_reported}
use Rattle.icache_top.proofs.GraphLines.{graph_text}
use Rattle.icache_top.proofs.top.graph.Goals as goal

pub returns-in_err-expanded-clause-reported : goal.returns-in_err-expanded-clause-reported
returns-in_err-expanded-clause-reported g c =
    flow_reported _ _ _ (g.O.Sink.sent c.args.out.now) c.in_err-expanded.field-0.0 c.from_residual.result
    c.in_err-expanded.ensures.refused
    c.from_residual.ensures.1

pub send_graph-requires : goal.send_graph-requires
send_graph-requires g c = sym (AllZip-long _ _ _ c.in_ok-expanded.ensures.graph.each)

pub returns-in_err-send_graph-clause-reported : goal.returns-in_err-send_graph-clause-reported
returns-in_err-send_graph-clause-reported g c =
    sent_reported _ _ _ _ _ _ c.in_err-send_graph.field-0.0 c.from_residual-in_err-send_graph.result
    (graph_text (program_for (Graph c.args.ask.now) c.args.image.now c.args.entry) c.args.ask.now c.in_ok-expanded.expanded c.in_ok-expanded.ensures.accepted
    c.in_ok-expanded.ensures.graph)
    c.in_err-send_graph.ensures.part c.from_residual-in_err-send_graph.ensures.1

pub returns-clause-reported : goal.returns-clause-reported
returns-clause-reported g c = (
  graph_text_of c.in_ok-expanded.expanded,
  graph_text (program_for (Graph c.args.ask.now) c.args.image.now c.args.entry) c.args.ask.now c.in_ok-expanded.expanded c.in_ok-expanded.ensures.accepted
      c.in_ok-expanded.ensures.graph,
  c.in_ok-send_graph.ensures.whole,
)
