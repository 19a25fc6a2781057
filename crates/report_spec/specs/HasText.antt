-- Which lines have a text: the valid ones whose numbers fit the fields of a line, so all valid lines of the code.
use Rattle.std.specs.Prelude.{◌≡◌, ℕ, ◌^◌, ◌<◌, IsTrue, List, IfSome}
use Rattle.transition_spec.specs.declared.way.Way.{Way}
use Rattle.report_spec.specs.declared.line.Line.{Line}
use Rattle.report_spec.specs.declared.line.Line.TheVariants.{At, Context, Unreachable}
use Rattle.report_spec.specs.declared.line.Verdict.{Verdict}
use Rattle.report_spec.specs.declared.line.Verdict.TheVariants.{AlwaysHit, AlwaysMiss, Unknown}
use Rattle.report_spec.specs.Text.{line_text}
use Rattle.report_spec.specs.Valid.{is_valid}

-- steps have 64 bits
abbrev pub FitsWay : Way → Type 0
FitsWay way = way.steps < 2 ^ 64

abbrev pub FitsVerdict : Verdict → Type 0
FitsVerdict AlwaysHit = Unit {0}
FitsVerdict AlwaysMiss = Unit {0}
FitsVerdict (Unknown hit miss) = FitsWay hit × FitsWay miss

-- a configuration's number, addresses and depths have 32 bits
abbrev pub FitsLine : Line → Type 0
FitsLine (At at verdict) = (at < 2 ^ 32) × FitsVerdict verdict
FitsLine (Context node at depth back verdict) =
    (node < 2 ^ 32) × (at < 2 ^ 32) × (depth < 2 ^ 32) × IfSome back (λ address. address < 2 ^ 32) × FitsVerdict verdict
FitsLine (Unreachable first last) = (first < 2 ^ 32) × (last < 2 ^ 32)

-- the line is valid and its numbers fit
pub record HasText (line : Line) : Type 0 where
  pub fits : FitsLine line
  pub valid : IsTrue (is_valid line)

-- the text is that of this line
pub record IsTextOf (line : Line) (text : List ℕ) : Type 0 where
  pub has_text : HasText line
  pub is : line_text line ≡ text
