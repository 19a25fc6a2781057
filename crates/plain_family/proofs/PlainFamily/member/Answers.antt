use Rattle.plain_family.proofs.Order.{is_ok-place}
use Rattle.plain_family.proofs.PlainFamily.member.Goals as goal

pub returns : goal.returns
returns c = rw (c.is_ok.ensures.value, ← c.sets.ensures.value)
    (is_ok-place c.sets.result.now c.args.set.now c.find.result c.find.ensures)
