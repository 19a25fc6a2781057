-- All sides compute.
use Rattle.std.proofs.Common.{refl}
use Rattle.elf_spec.specs.Word.{word_at}
use Rattle.riscv_spec.specs.Pair.{pair_of}
use Rattle.riscv_spec.specs.Table.{kind_of}
use Rattle.flow_spec.specs.Next.{next_at}
use Rattle.flow_spec.specs.Successors.{successors}
use Rattle.worked_examples.proofs.laws.worked_flows.Goals as goal

pub returns-clause-moves : goal.returns-clause-moves
unfolding successors next_at word_at kind_of pair_of
returns-clause-moves c = refl

pub returns-clause-calls : goal.returns-clause-calls
unfolding successors next_at word_at kind_of pair_of
returns-clause-calls c = refl

pub returns-clause-targets : goal.returns-clause-targets
unfolding word_at pair_of
returns-clause-targets c = refl
