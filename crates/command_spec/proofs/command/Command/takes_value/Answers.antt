use Rattle.std.proofs.Common.{◌∙◌, ap, Some}
use Rattle.command_spec.proofs.Table.{takes_of}
use Rattle.command_spec.proofs.command.Command.takes_value.Goals as goal

pub returns-in-Some : goal.returns-in-Some
returns-in-Some c =
    ap Some c.takes_value.ensures ∙ rw c.in-Some.is at (takes_of _ _ _ _ c.options.ensures c.find.ensures)

pub returns-in-None : goal.returns-in-None
returns-in-None c = rw c.in-None.is at (takes_of _ _ _ _ c.options.ensures c.find.ensures)
