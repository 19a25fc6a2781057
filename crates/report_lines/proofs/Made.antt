-- All lines make a report, and there are lines from each cursor on.
use Rattle.std.proofs.Common.{ℕ, ◌^◌, List, [], length, refl, subst, arith, Option, Some, None}
use Rattle.std.specs.Prelude.{Bool, true, false}
use Rattle.cache_spec.specs.Geometry.{Geometry}
use Rattle.cache_spec.specs.declared.start.Start.{Start}
use Rattle.flow_spec.specs.Program.{Program}
use Rattle.flow_spec.specs.Configuration.{Configuration}
use Rattle.path_model.specs.declared.graph.Node.{Node}
use Rattle.report_spec.specs.declared.line.Line.{Line}
use Rattle.node_spec.specs.declared.verdict.NodeVerdict.{NodeVerdict}
use Rattle.report_spec.specs.Report.{IsReport, AreContextLines}
use Rattle.report_spec.specs.Text.{text_of}
use Rattle.node_spec.specs.Plan.{layout}
use Rattle.report_lines.specs.Findings.{AreFindings}
use Rattle.report_lines.specs.Lines.{Stands, AreAllFrom}
use Rattle.report_lines.proofs.Numbers.{context_lines, numbers_left}
use Rattle.report_lines.proofs.Addresses.{by_address}
use Rattle.report_lines.proofs.Rest.{addresses_left}

-- all lines make a report
pub report : (program : Program) (g : Geometry) (start : Start) (contexts : Bool) (configurations : List Configuration)
    (nodes : List Node) (verdicts : List NodeVerdict)
    → AreFindings program g start contexts configurations nodes verdicts → (lines : List Line)
    → AreAllFrom (Stands contexts (layout program.image program.isa configurations nodes) verdicts) (Some 0) lines
    → IsReport program g start contexts (text_of lines)
report program g start true configurations nodes verdicts found lines all =
    let (layers, accepted, same) = found.accepted in (
      lines,
      refl,
      (
        layers,
        accepted,
        subst (λ (cs : List Configuration). AreContextLines program g start 0 cs lines) same
            (context_lines program g start configurations nodes verdicts found lines 0 all),
      ),
    )
report program g start false configurations nodes verdicts found lines all =
    (lines, refl, by_address program g start configurations nodes verdicts found lines all)

-- there are lines from each cursor on
pub rest : (program : Program) (g : Geometry) (start : Start) (contexts : Bool) (configurations : List Configuration)
    (nodes : List Node) (verdicts : List NodeVerdict)
    → AreFindings program g start contexts configurations nodes verdicts → (cursor : Option ℕ)
    → (lines : List Line)
    × AreAllFrom (Stands contexts (layout program.image program.isa configurations nodes) verdicts) cursor lines
rest program g start contexts configurations nodes verdicts found None = ([], refl)
rest program g start true configurations nodes verdicts found (Some k) =
    numbers_left program g start configurations nodes verdicts found (length configurations) k (omega arith)
rest program g start false configurations nodes verdicts found (Some from) =
    addresses_left (layout program.image program.isa configurations nodes) found.within verdicts found.graph.graph
    found.one_each (λ n inside. let (verdict, is, right) = found.right n inside in (verdict, is)) found.ways (2 ^ 32)
    from (omega arith)
