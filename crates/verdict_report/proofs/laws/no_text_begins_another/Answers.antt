use Rattle.verdict_report.proofs.Lines.{no_prefix}
use Rattle.verdict_report.proofs.laws.no_text_begins_another.Goals as goal

pub returns : goal.returns
returns c = no_prefix
