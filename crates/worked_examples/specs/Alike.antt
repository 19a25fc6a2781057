-- Texts with unknown lines: some differ in a verdict, and some in ways alone.
use Rattle.std.specs.Prelude.{ℕ, List, [], ◌∷◌, ◌++◌, codes}
use Rattle.report_spec.specs.declared.line.Line.{Line}
use Rattle.report_spec.specs.declared.line.Line.TheVariants.{At}
use Rattle.report_spec.specs.declared.line.Verdict.{Verdict}
use Rattle.report_spec.specs.declared.line.Verdict.TheVariants.{AlwaysHit, Unknown}
use Rattle.worked_examples.specs.Texts.{way}

-- an unknown line, and a line with a verdict after it
abbrev pub lines_after : Verdict → List Line
lines_after verdict = At 0x10000 (Unknown (way 3 (codes "t")) (way 1 [])) ∷ At 0x10004 verdict ∷ []

-- the same with an unknown line after both
abbrev pub lines_between : Verdict → List Line
lines_between verdict = lines_after verdict ++ (At 0x10008 (Unknown (way 4 (codes "tn")) (way 2 (codes "n"))) ∷ [])

-- the lines around an always-hit, with other ways
abbrev pub lines_by_other_ways : List Line
lines_by_other_ways =
    At 0x10000 (Unknown (way 5 (codes "tt")) (way 2 (codes "n")))
    ∷ At 0x10004 AlwaysHit
    ∷ At 0x10008 (Unknown (way 6 (codes "ttn")) (way 3 []))
    ∷ []

-- their texts
abbrev pub hit_after : List ℕ
hit_after = codes "0x00010000 unknown hit 3 t miss 1 -\n" ++ codes "0x00010004 always-hit\n"

abbrev pub miss_after : List ℕ
miss_after = codes "0x00010000 unknown hit 3 t miss 1 -\n" ++ codes "0x00010004 always-miss\n"

abbrev pub hit_between : List ℕ
hit_between = hit_after ++ codes "0x00010008 unknown hit 4 tn miss 2 n\n"

abbrev pub miss_between : List ℕ
miss_between = miss_after ++ codes "0x00010008 unknown hit 4 tn miss 2 n\n"

abbrev pub hit_by_other_ways : List ℕ
hit_by_other_ways =
    codes "0x00010000 unknown hit 5 tt miss 2 n\n"
    ++ (codes "0x00010004 always-hit\n"
    ++ codes "0x00010008 unknown hit 6 ttn miss 3 -\n")
