-- Lines that are valid where the verdicts of all nodes are.
use Rattle.std.specs.Prelude.{IsTrue, List}
use Rattle.report_spec.specs.declared.line.Line.{Line}
use Rattle.report_spec.specs.Valid.{is_valid}
use Rattle.node_spec.specs.declared.verdict.NodeVerdict.{NodeVerdict}
use Rattle.node_spec.specs.Valid.{AreValid}

-- the line is valid where all verdicts are
abbrev pub IsValidWith : List NodeVerdict → Line → Type 0
IsValidWith verdicts line = AreValid verdicts → IsTrue (is_valid line)
