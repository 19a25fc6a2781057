-- Lines of each kind, each with its text.
use Rattle.std.specs.Prelude.{ℕ, List, [], ◌∷◌, Some, None, codes}
use Rattle.transition_spec.specs.declared.way.Way.{Way}
use Rattle.report_spec.specs.declared.line.Line.{Line}
use Rattle.report_spec.specs.declared.line.Line.TheVariants.{At, Context, Unreachable}
use Rattle.report_spec.specs.declared.line.Verdict.TheVariants.{AlwaysHit, AlwaysMiss, Unknown}

-- a path of `steps` members, with these choices
abbrev pub way : ℕ → List ℕ → Way
way steps choices = record { steps = steps; choices = choices }

-- lines, each with its text
abbrev pub worked_lines : List (Line × List ℕ)
worked_lines =
    (At 0x10000 AlwaysMiss, codes "0x00010000 always-miss\n")
    ∷ (At 0xfffffffc AlwaysHit, codes "0xfffffffc always-hit\n")
    ∷ (At 0x10084 (Unknown (way 5 (codes "t")) (way 6 (codes "n"))), codes "0x00010084 unknown hit 5 t miss 6 n\n")
    ∷ (At 0x10000 (Unknown (way 13 (codes "ttn")) (way 1 [])), codes "0x00010000 unknown hit 13 ttn miss 1 -\n")
    ∷ (Unreachable 0x1000c 0x10010, codes "0x0001000c-0x00010010 unreachable\n")
    ∷ (Unreachable 0x1000c 0x1000c, codes "0x0001000c-0x0001000c unreachable\n")
    ∷ (Context 0 0x10000 0 None AlwaysMiss, codes "#0 0x00010000 depth 0 back none always-miss\n")
    ∷ (Context 1 0x1000c 1 (Some 0x10004) AlwaysMiss, codes "#1 0x0001000c depth 1 back 0x00010004 always-miss\n")
    ∷ []
