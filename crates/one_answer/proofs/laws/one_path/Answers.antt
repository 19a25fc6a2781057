use Rattle.one_answer.proofs.Ways.{one_program_path}
use Rattle.one_answer.proofs.laws.one_path.Goals as goal

pub returns : goal.returns
returns c = λ program way path other. one_program_path program way path other
