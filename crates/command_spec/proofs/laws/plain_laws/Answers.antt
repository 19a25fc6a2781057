use Rattle.command_spec.proofs.Right.{read_off}
use Rattle.command_spec.proofs.laws.plain_laws.Goals as goal

pub returns : goal.returns
returns c = λ command options are right. read_off command options are right
