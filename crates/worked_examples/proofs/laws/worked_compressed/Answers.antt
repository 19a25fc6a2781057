-- The successors and the targets compute, and so the layers of programs with one path.
use Rattle.std.proofs.Common.{refl, lit≤}
use Rattle.elf_spec.specs.Parcel.{parcel_at, long_at}
use Rattle.elf_spec.specs.Word.{word_at}
use Rattle.riscv_spec.specs.CompressedTable.{parcel_kind_of}
use Rattle.riscv_spec.specs.Pair.{pair_of}
use Rattle.riscv_spec.specs.Parcel.{widened}
use Rattle.riscv_spec.specs.Table.{kind_of}
use Rattle.flow_spec.specs.Next.{next_at}
use Rattle.flow_spec.specs.Successors.{successors}
use Rattle.worked_examples.specs.Compressed.{long_between, call_over_stop}
use Rattle.worked_examples.proofs.Compressed.{whole_rest, whole_goes, parted_rest, parted_goes, called_rest, called_goes}
use Rattle.worked_examples.proofs.Straight.{straight_accepted}
use Rattle.worked_examples.proofs.laws.worked_compressed.Goals as goal

pub returns-clause-words : goal.returns-clause-words
unfolding successors next_at parcel_at long_at widened parcel_kind_of kind_of pair_of
returns-clause-words c = refl

pub returns-clause-flows : goal.returns-clause-flows
unfolding successors next_at word_at parcel_at long_at widened parcel_kind_of kind_of pair_of
returns-clause-flows c = refl

pub returns-clause-faults : goal.returns-clause-faults
unfolding successors next_at word_at parcel_at long_at widened parcel_kind_of kind_of pair_of
returns-clause-faults c = refl

pub returns-clause-targets : goal.returns-clause-targets
unfolding parcel_at long_at widened pair_of
returns-clause-targets c = refl

pub returns-clause-parted : goal.returns-clause-parted
unfolding parcel_at long_at pair_of
returns-clause-parted c = straight_accepted 4 long_between parted_rest refl parted_goes (lit≤ tt)

pub returns-clause-whole : goal.returns-clause-whole
unfolding parcel_at long_at pair_of
returns-clause-whole c = straight_accepted 16 long_between whole_rest refl whole_goes (lit≤ tt)

pub returns-clause-called : goal.returns-clause-called
unfolding parcel_at long_at pair_of
returns-clause-called c = straight_accepted 16 call_over_stop called_rest refl called_goes (lit≤ tt)

pub returns-clause-fetches : goal.returns-clause-fetches
returns-clause-fetches c = refl
