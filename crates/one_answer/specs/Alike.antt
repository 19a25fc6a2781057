-- Reports that agree in all but the two ways of each unknown line.
use Rattle.std.specs.Prelude.{◌≡◌, ℕ, List, [], map, IsTrue}
use Rattle.std.specs.List.{list_all}
use Rattle.transition_spec.specs.declared.way.Way.{Way}
use Rattle.report_spec.specs.declared.line.Line.{Line}
use Rattle.report_spec.specs.declared.line.Line.TheVariants.{At, Context, Unreachable}
use Rattle.report_spec.specs.declared.line.Verdict.{Verdict}
use Rattle.report_spec.specs.declared.line.Verdict.TheVariants.{AlwaysHit, AlwaysMiss, Unknown}
use Rattle.report_spec.specs.Text.{text_of}
use Rattle.report_spec.specs.Valid.{is_valid}

-- a way that names no path
abbrev pub no_way : Way
no_way = record { steps = 0; choices = [] }

-- a verdict without its ways
abbrev pub verdict_alone : Verdict → Verdict
verdict_alone AlwaysHit = AlwaysHit
verdict_alone AlwaysMiss = AlwaysMiss
verdict_alone (Unknown hit miss) = Unknown no_way no_way

-- a line without its ways
abbrev pub line_alone : Line → Line
line_alone (At at verdict) = At at (verdict_alone verdict)
line_alone (Context node at depth back verdict) = Context node at depth back (verdict_alone verdict)
line_alone (Unreachable first last) = Unreachable first last

-- the lines are as many, and agree one by one in all but their ways
abbrev pub AreAlike : List Line → List Line → Type 0
AreAlike lines others = map line_alone lines ≡ map line_alone others

-- the lines are valid, and the text is theirs
abbrev pub IsTextOfValid : List Line → List ℕ → Type 0
IsTextOfValid lines text = IsTrue (list_all is_valid lines) × (text ≡ text_of lines)

-- the texts are those of valid lines that are alike
abbrev pub AreAlikeTexts : List ℕ → List ℕ → Type 0
AreAlikeTexts text other =
    (lines : List Line) × (others : List Line) × IsTextOfValid lines text × IsTextOfValid others other
    × AreAlike lines others
