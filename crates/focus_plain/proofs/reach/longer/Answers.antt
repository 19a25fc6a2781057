use Rattle.focus_plain.proofs.Table.{longer-value}
use Rattle.focus_plain.proofs.reach.longer.Goals as goal

pub returns-clause-value : goal.returns-clause-value
returns-clause-value c = longer-value c.insert.result c.args.number c.args.set.now c.requires c.insert.ensures.rising
    c.insert.ensures.members
