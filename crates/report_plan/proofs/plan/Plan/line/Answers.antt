use Rattle.std.proofs.Common.{List, subst}
use Rattle.node_spec.specs.Plan.{layout}
use Rattle.path_model.specs.declared.graph.Node.{Node}
use Rattle.report_plan.specs.Sources.{IsLineFrom}
use Rattle.report_plan.proofs.Made.{by-address, by-number, gives-line, line-valid}
use Rattle.report_plan.proofs.plan.Plan.line.Goals as goal

pub line_of-requires-clause-gives : goal.line_of-requires-clause-gives
line_of-requires-clause-gives c =
    gives-line
    (layout c.args.image.now c.args.isa c.args.expanded.now.configurations c.args.expanded.now.nodes)
    c.args.verdicts.now c.args.contexts c.args.from c.in-Some.place c.in-Some.next c.requires.ways
    c.in-Some.ensures.by_address c.in-Some.ensures.by_number

pub returns-clause-by_address : goal.returns-clause-by_address
returns-clause-by_address c = λ is.
    by-address (layout c.args.image.now c.args.isa c.args.expanded.now.configurations c.args.expanded.now.nodes)
    c.args.verdicts.now c.args.from c.in-Some.place c.in-Some.next c.in_ok-line.line (c.in-Some.ensures.by_address is)
    (subst (λ (nodes : List Node). IsLineFrom nodes c.args.verdicts.now c.in-Some.place c.in_ok-line.line)
    c.graph.ensures.same c.in_ok-line.ensures)

pub returns-clause-by_number : goal.returns-clause-by_number
returns-clause-by_number c = λ is.
    by-number (layout c.args.image.now c.args.isa c.args.expanded.now.configurations c.args.expanded.now.nodes)
    c.args.verdicts.now c.args.from c.in-Some.place c.in-Some.next c.in_ok-line.line (c.in-Some.ensures.by_number is)
    (subst (λ (nodes : List Node). IsLineFrom nodes c.args.verdicts.now c.in-Some.place c.in_ok-line.line)
    c.graph.ensures.same c.in_ok-line.ensures)

pub returns-clause-valid : goal.returns-clause-valid
returns-clause-valid c =
    line-valid (layout c.args.image.now c.args.isa c.args.expanded.now.configurations c.args.expanded.now.nodes)
    c.args.verdicts.now c.args.contexts c.args.from c.in_ok-line.line c.in-Some.next (returns-clause-by_address c)
    (returns-clause-by_number c)
