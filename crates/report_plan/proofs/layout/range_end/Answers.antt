use Rattle.report_plan.proofs.Bare.{bare-more, bare-up, bare-range}
use Rattle.report_plan.proofs.layout.range_end.Goals as goal

pub loop-next-preserved : goal.loop-next-preserved
loop-next-preserved c = bare-more c.args.layout.now c.args.first c.loop-next.last c.in-Some.next
    c.loop-next.invariant c.in-Some.ensures.some.0 c.in-Some.ensures.some.1

pub returns-clause-order : goal.returns-clause-order
returns-clause-order c =
    bare-up c.args.layout.now c.args.first c.loop-next.last c.loop-next.invariant

pub returns-clause-range : goal.returns-clause-range
returns-clause-range c = bare-range c.args.layout.now c.args.first c.loop-next.last
    c.loop-next.invariant c.in_default.ensures.none
