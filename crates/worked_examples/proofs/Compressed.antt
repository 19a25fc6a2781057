-- Where programs with compressed instructions go, one configuration after another.
use Rattle.std.proofs.Common.{List, [], ◌∷◌, refl}
use Rattle.elf_spec.specs.Parcel.{parcel_at, long_at}
use Rattle.riscv_spec.specs.CompressedTable.{parcel_kind_of}
use Rattle.riscv_spec.specs.Pair.{pair_of}
use Rattle.riscv_spec.specs.Parcel.{widened}
use Rattle.riscv_spec.specs.Table.{kind_of}
use Rattle.flow_spec.specs.Configuration.{Configuration, next_part}
use Rattle.flow_spec.specs.Next.{next_at}
use Rattle.flow_spec.specs.Successors.{successors}
use Rattle.worked_examples.specs.Compressed.{long_between, call_over_stop, opened_by_jal}
use Rattle.worked_examples.specs.Programs.{as_parcels, at, in_call}
use Rattle.worked_examples.proofs.Straight.{GoesBy}

-- the long instruction, fetched at once
abbrev pub whole_rest : List Configuration
whole_rest = at 0x10002 ∷ at 0x10006 ∷ []

pub whole_goes : GoesBy (successors (as_parcels 16 long_between)) (at 0x10000) whole_rest
unfolding successors next_at parcel_at long_at widened parcel_kind_of kind_of pair_of
whole_goes = (refl, (refl, refl))

-- the same, fetched in two parts
abbrev pub parted_rest : List Configuration
parted_rest = at 0x10002 ∷ next_part (at 0x10002) ∷ at 0x10006 ∷ []

pub parted_goes : GoesBy (successors (as_parcels 4 long_between)) (at 0x10000) parted_rest
unfolding successors next_at parcel_at long_at widened parcel_kind_of kind_of pair_of
parted_goes = (refl, (refl, (refl, refl)))

-- the call over the stop
abbrev pub called_rest : List Configuration
called_rest = in_call opened_by_jal 0x10004 ∷ at 0x10002 ∷ []

pub called_goes : GoesBy (successors (as_parcels 16 call_over_stop)) (at 0x10000) called_rest
unfolding successors next_at parcel_at long_at widened parcel_kind_of kind_of pair_of
called_goes = (refl, (refl, refl))
