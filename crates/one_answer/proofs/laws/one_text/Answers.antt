use Rattle.one_answer.proofs.Reports.{one_report}
use Rattle.one_answer.proofs.Graphs.{one_graph_text}
use Rattle.one_answer.proofs.laws.one_text.Goals as goal

pub returns : goal.returns
returns c = record {
  report = λ program g start contexts text other. one_report program g start contexts text other;
  graph = λ program text other. one_graph_text program text other;
}
