use Rattle.std.proofs.Common.{rules}
use Rattle.std.proofs.lemmas.Result.{IfOk-weaker}
use Rattle.work_share.proofs.Slots.{none_empty, in_place}
use Rattle.work_share.proofs.order.in_order.Goals as goal

pub unwrapped-requires : goal.unwrapped-requires
unwrapped-requires g c =
    none_empty c.args.jobs c.args.results.items c.in_ok-slots.slots.items (search rules) c.in_ok-slots.ensures.each

pub returns-clause-each : goal.returns-clause-each
returns-clause-each g c =
    IfOk-weaker c.unwrapped.result _ _
    (λ all is.
    in_place c.args.jobs c.args.results.items c.in_ok-slots.slots.items all.items is (search rules)
    c.in_ok-slots.ensures.each) c.unwrapped.ensures
