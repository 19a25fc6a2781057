-- Instructions as they are read from an image.
use Rattle.std.specs.Prelude.{◌≡◌}
use Rattle.riscv_spec.specs.declared.parcel.Length.TheVariants.{Two}
use Rattle.riscv_spec.specs.Parcel.{length_of}
use Rattle.flow_spec.specs.declared.instruction.Instruction.{Instruction}
use Rattle.flow_spec.specs.declared.instruction.Instruction.TheVariants.{Word, Parcel, Cut}

-- a parcel that stands alone has length Two
abbrev pub IsRead : Instruction → Type 0
IsRead (Word code) = Unit {0}
IsRead (Parcel code) = length_of code ≡ Two
IsRead (Cut code) = Unit {0}
