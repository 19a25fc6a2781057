-- Both sides compute.
use Rattle.std.proofs.Common.{refl}
use Rattle.riscv_spec.specs.CompressedTable.{parcel_kind_of}
use Rattle.riscv_spec.specs.Parcel.{widened}
use Rattle.riscv_spec.specs.Table.{kind_of}
use Rattle.rv_decode.proofs.parcel_laws.worked_parcels.Goals as goal

pub returns-clause-lengths : goal.returns-clause-lengths
returns-clause-lengths c = refl

pub returns-clause-kinds : goal.returns-clause-kinds
unfolding parcel_kind_of kind_of
returns-clause-kinds c = refl

pub returns-clause-widenings : goal.returns-clause-widenings
unfolding widened
returns-clause-widenings c = refl
