use Rattle.std.proofs.Common.{◌<◌, length, arith}
use Rattle.focus_values.proofs.Walked.{EachHas-more, EachHas-all}
use Rattle.focus_values.proofs.families.are_small.Goals as goal

pub loop-set-preserved : goal.loop-set-preserved
loop-set-preserved c =
    EachHas-more (λ s. length s < c.args.ways) c.args.sets.now c.loop-set.set-index c.set-item.result
    c.loop-set-test.true c.set-item.is c.loop-set.invariant (omega arith)

pub returns-clause-small : goal.returns-clause-small
returns-clause-small c = λ _. EachHas-all (λ s. length s < c.args.ways) c.args.sets.now c.loop-set.set-index
    c.loop-set-test.false c.loop-set.invariant
