use Rattle.std.proofs.lemmas.Result.{IfOk-weaker}
use Rattle.verdict_report.proofs.Lines.{line_of_is}
use Rattle.verdict_report.proofs.read.read_line.Goals as goal

pub returns : goal.returns
returns c = IfOk-weaker c.line_of.result _ _ (λ found is. line_of_is c.args.text.now found is) c.line_of.ensures
