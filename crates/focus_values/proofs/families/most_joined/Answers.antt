use Rattle.focus_values.proofs.Made.{made_most_joined}
use Rattle.focus_values.proofs.families.most_joined.Goals as goal

pub returns : goal.returns
returns c = rw (c.in-Some.is, c.in-Some-two.is) (made_most_joined _ _ c.in_ok-union.field-0 c.in_ok-most_of.field-0
    c.in_ok-union.ensures.sets c.in_ok-union.ensures.order.rising c.in_ok-most_of.ensures)
