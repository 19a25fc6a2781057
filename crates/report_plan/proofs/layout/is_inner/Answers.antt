use Rattle.std.proofs.Common.{◌∙◌, subst, ℕ, Some, arith, ◌≡◌}
use Rattle.std.proofs.lemmas.Bool.{both_ways}
use Rattle.flow_spec.specs.declared.instruction.Instruction.TheVariants.{Word}
use Rattle.flow_spec.specs.Instruction.{instruction_at}
use Rattle.report_plan.proofs.Lines.{node-there}
use Rattle.report_plan.proofs.layout.is_inner.Goals.{then-is_empty, else-is_empty}
use Rattle.report_plan.proofs.layout.is_inner.Goals as goal

pub returns-else-has_four_bytes-clause-inner : goal.returns-else-has_four_bytes-clause-inner
returns-else-has_four_bytes-clause-inner c = (
  λ yes. absurd (both_ways _ c.if-has_four_bytes.false yes),
  λ inner. elim c.if-is_empty.branch [
    | then-is_empty w ↦
        let same : inner.begins ≡ c.in-Some.begins = omega (arith, inner.middle, c.in-Some.ensures) in
        let P : ℕ → Type 0 = λ begins. (code : ℕ)
        × (instruction_at c.args.layout.now.isa c.args.layout.now.image begins ≡ Some (Word code)) in
        w.value-is ∙ w.has_four_bytes.ensures.code.1 (subst P same inner.four_bytes)
    | else-is_empty w ↦
        absurd (node-there _ _ _ _ c.nodes_of.ensures.here c.is_empty.ensures w.if-is_empty.false inner.bare)
  ],
)
