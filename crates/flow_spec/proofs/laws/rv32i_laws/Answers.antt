use Rattle.std.proofs.Common.{refl}
use Rattle.flow_spec.proofs.Words.{second-word, next-word}
use Rattle.flow_spec.proofs.laws.rv32i_laws.Goals as goal

pub returns-clause-second : goal.returns-clause-second
returns-clause-second c = second-word

pub returns-clause-next : goal.returns-clause-next
returns-clause-next c = next-word
