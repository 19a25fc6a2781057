-- Both sides compute.
use Rattle.std.proofs.Common.{refl}
use Rattle.elf_spec.specs.Word.{word_at}
use Rattle.riscv_spec.specs.Pair.{pair_of}
use Rattle.riscv_spec.specs.Table.{kind_of}
use Rattle.flow_spec.specs.Next.{next_at}
use Rattle.flow_spec.specs.Successors.{successors}
use Rattle.worked_examples.proofs.laws.worked_faults.Goals as goal

pub returns : goal.returns
unfolding successors next_at word_at kind_of pair_of
returns c = refl
