use Rattle.std.proofs.Common.{sym, subst}
use Rattle.std.specs.Prelude.{IfErr}
use Rattle.flow_spec.specs.Instruction.{instruction_kind, code_of}
use Rattle.flow_spec.specs.Next.{Going}
use Rattle.flow_spec.specs.Transfer.{linking, transfer_by}
use Rattle.flow_graph.specs.Refusal.{IsRefusalAt}
use Rattle.flow_graph.proofs.Refused.{refused, code_there}
use Rattle.flow_graph.proofs.next.next_of.Goals as goal

pub returns-in-Some-clause-refusals : goal.returns-in-Some-clause-refusals
returns-in-Some-clause-refusals c =
    let P : Going → Type 0 = λ going. IfErr going (IsRefusalAt c.args.isa c.args.image.now c.args.at) in
    let code = code_of c.unwrap-instruction.result in
    subst P (sym (c.next_by_pair.ensures code c.args.top))
    (refused c.args.isa c.args.image.now c.args.at _ code c.args.top
    (linking c.in-Some.pair.target c.in-Some.pair.link)
    (code_there _ _ _ c.unwrap-instruction.ensures c.instruction_at.ensures.instruction))

pub returns-in-None-clause-refusals : goal.returns-in-None-clause-refusals
returns-in-None-clause-refusals c =
    let P : Going → Type 0 = λ going. IfErr going (IsRefusalAt c.args.isa c.args.image.now c.args.at) in
    let instruction = c.unwrap-instruction.result in
    subst P (sym c.next_by_kind.ensures)
    (refused c.args.isa c.args.image.now c.args.at _ (code_of instruction) c.args.top
    (transfer_by c.args.at (instruction_kind instruction))
    (code_there _ _ _ c.unwrap-instruction.ensures c.instruction_at.ensures.instruction))
