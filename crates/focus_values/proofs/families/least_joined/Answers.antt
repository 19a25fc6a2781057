use Rattle.std.proofs.lemmas.Result.{IfOk-weaker}
use Rattle.focus_values.specs.Families.{IsLeastJoined}
use Rattle.focus_values.proofs.Made.{HasLeastOf, made_least_joined}
use Rattle.focus_values.proofs.families.least_joined.Goals as goal

pub returns : goal.returns
returns c = IfOk-weaker c.least_of-2.result (HasLeastOf c.in_ok-union.field-0)
    (IsLeastJoined c.args.one.now c.args.two.now)
    (λ new is. made_least_joined c.args.one.now c.args.two.now c.in_ok-union.field-0 new c.in_ok-union.ensures.sets
    c.in_ok-union.ensures.order.rising is)
    c.least_of-2.ensures
