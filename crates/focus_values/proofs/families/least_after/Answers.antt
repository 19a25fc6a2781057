use Rattle.std.proofs.lemmas.Result.{IfOk-weaker}
use Rattle.focus_values.specs.Families.{IsLeastAfter}
use Rattle.focus_values.proofs.Made.{HasLeastOf, made_least_after}
use Rattle.focus_values.proofs.families.least_after.Goals as goal

pub returns : goal.returns
returns c = IfOk-weaker c.least_of-2.result (HasLeastOf c.in_ok-below.field-0)
    (IsLeastAfter c.args.other c.args.ways c.args.least.now)
    (λ new is. made_least_after c.args.other c.args.ways c.args.least.now c.in_ok-insert_each.field-0
    c.in_ok-below.field-0 new
    c.in_ok-insert_each.ensures.sets c.in_ok-below.ensures.sets c.in_ok-below.ensures.order.rising is)
    c.least_of-2.ensures
