use Rattle.focus_plain.proofs.Reached.{below-same}
use Rattle.focus_plain.proofs.reach.is_below.Goals as goal

pub returns-then-index-reach : goal.returns-then-index-reach
returns-then-index-reach c = λ _. below-same _ _ _ _ _ c.in-Some-younger.is c.in-Some.is c.if-index-reach.true
