use Rattle.std.proofs.Common.{sym, ◌∙◌}
use Rattle.std.proofs.lemmas.Bool.{both_ways}
use Rattle.report_plan.proofs.Lines.{node-there, text-here}
use Rattle.report_plan.proofs.layout.is_bare.Goals.{then-eq, else-eq}
use Rattle.report_plan.proofs.layout.is_bare.Goals as goal

pub returns-else-is_empty : goal.returns-else-is_empty
returns-else-is_empty c = (
  λ yes. absurd (both_ways _ c.if-is_empty.false yes),
  λ bare. elim c.if-eq.branch [
    | then-eq w ↦ absurd (node-there _ _ _ _ w.nodes_of.ensures.here w.is_empty.ensures
        (sym w.value-is ∙ c.if-is_empty.false) bare.bare)
    | else-eq w ↦ w.value-is ∙ c.eq.ensures ∙ text-here _ _ _ c.text_from.ensures bare.line.0
  ],
)
