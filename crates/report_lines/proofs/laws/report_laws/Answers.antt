use Rattle.std.proofs.Common.{arith}
use Rattle.report_lines.proofs.Made.{report, rest}
use Rattle.report_lines.proofs.Valid.{right_valid}
use Rattle.report_lines.proofs.laws.report_laws.Goals as goal

pub returns : goal.returns
returns c = record {
  report = λ program g start contexts configurations nodes verdicts lines found all.
      report program g start contexts configurations nodes verdicts found lines all;
  rest = λ program g start contexts configurations nodes verdicts cursor found.
      rest program g start contexts configurations nodes verdicts found cursor;
  valid = λ program g start contexts configurations nodes verdicts found. right_valid nodes g start verdicts
      (λ n below. found.right n (omega (arith, below, found.one_each)));
}
