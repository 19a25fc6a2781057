-- What is read of a line before its choices are copied stands for a verdict, or for a line with a verdict.
use Rattle.transition_spec.specs.declared.way.Way.{Way}
use Rattle.report_spec.specs.declared.line.Line.{Line}
use Rattle.report_spec.specs.declared.line.Line.TheVariants.{At, Context}
use Rattle.report_spec.specs.declared.line.Verdict.{Verdict}
use Rattle.report_spec.specs.declared.line.Verdict.TheVariants as verdicts
use Rattle.verdict_report.specs.declared.seen.SeenWay.{SeenWay}
use Rattle.verdict_report.specs.declared.seen.SeenVerdict.{SeenVerdict}
use Rattle.verdict_report.specs.declared.seen.SeenVerdict.TheVariants as seen
use Rattle.verdict_report.specs.declared.seen.Subject.{Subject}
use Rattle.verdict_report.specs.declared.seen.Subject.TheVariants.{Address, Configuration}

abbrev pub way_seen : SeenWay → Way
way_seen way = record { steps = way.steps; choices = way.choices.now }

abbrev pub verdict_seen : SeenVerdict → Verdict
verdict_seen seen.AlwaysHit = verdicts.AlwaysHit
verdict_seen seen.AlwaysMiss = verdicts.AlwaysMiss
verdict_seen (seen.Unknown hit miss) = verdicts.Unknown (way_seen hit) (way_seen miss)

-- the line that says this of its subject
abbrev pub line_with : Subject → Verdict → Line
line_with (Address at) verdict = At at verdict
line_with (Configuration node at depth back) verdict = Context node at depth back verdict
