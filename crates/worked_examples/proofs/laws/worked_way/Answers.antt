-- The successors compute, and each move is to one of them.
use Rattle.std.proofs.Common.{refl, arith, [], inr}
use Rattle.std.specs.Prelude.{codes}
use Rattle.elf_spec.specs.Word.{word_at}
use Rattle.riscv_spec.specs.Pair.{pair_of}
use Rattle.riscv_spec.specs.Table.{kind_of}
use Rattle.flow_spec.specs.Next.{next_at}
use Rattle.flow_spec.specs.Successors.{successors}
use Rattle.worked_examples.proofs.laws.worked_way.Goals as goal

pub returns-clause-path : goal.returns-clause-path
unfolding successors next_at word_at kind_of pair_of
returns-clause-path c = ((1, omega arith, refl), ((0, omega arith, refl), refl))

pub returns-clause-named : goal.returns-clause-named
unfolding successors next_at word_at kind_of pair_of
returns-clause-named c = record {
  steps = refl;
  choices =
      ([], codes "t", ([], [], refl, refl, refl), inr (refl, refl), refl);
}
