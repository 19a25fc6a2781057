use Rattle.verdict_report.proofs.Lines.{one_line_of_text}
use Rattle.verdict_report.proofs.laws.texts_are_unique.Goals as goal

pub returns : goal.returns
returns c = one_line_of_text
