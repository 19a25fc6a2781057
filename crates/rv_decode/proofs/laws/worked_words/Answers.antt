-- Both sides compute.
use Rattle.std.proofs.Common.{refl}
use Rattle.riscv_spec.specs.Pair.{pair_of}
use Rattle.riscv_spec.specs.Table.{kind_of}
use Rattle.rv_decode.proofs.laws.worked_words.Goals as goal

pub returns-clause-kinds : goal.returns-clause-kinds
unfolding kind_of
returns-clause-kinds c = refl

pub returns-clause-pairs : goal.returns-clause-pairs
unfolding pair_of
returns-clause-pairs c = refl
