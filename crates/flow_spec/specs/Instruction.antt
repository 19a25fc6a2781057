-- What stands at an address of an image: the instruction that begins there, its bytes, its code and its kind, and in how
-- many parts it is fetched. The lengths are those of the RISC-V unprivileged manual.
use Rattle.std.specs.Prelude.{ℕ, ◌+◌, ◌%◌, ◌^◌, Bool, Option, Some, None, option_map, ◌==◌, if◌then◌else◌, IsTrue}
use Rattle.elf_spec.specs.Image.{Image}
use Rattle.elf_spec.specs.Word.{word_at, has_word, IsNext}
use Rattle.elf_spec.specs.Parcel.{parcel_at, long_at, has_parcel}
use Rattle.riscv_spec.specs.declared.kind.Kind.{Kind}
use Rattle.riscv_spec.specs.declared.kind.Kind.TheVariants.{Illegal}
use Rattle.riscv_spec.specs.declared.parcel.Isa.{Isa}
use Rattle.riscv_spec.specs.declared.parcel.Isa.TheVariants.{Rv32i, Rv32ic}
use Rattle.riscv_spec.specs.declared.parcel.Length.{Length}
use Rattle.riscv_spec.specs.declared.parcel.Length.TheVariants.{Two, Four, Longer}
use Rattle.riscv_spec.specs.Parcel.{length_of}
use Rattle.riscv_spec.specs.Table.{kind_of}
use Rattle.riscv_spec.specs.CompressedTable.{parcel_kind_of}
use Rattle.flow_spec.specs.declared.instruction.Instruction.{Instruction}
use Rattle.flow_spec.specs.declared.instruction.Instruction.TheVariants.{Word, Parcel, Cut}

-- the address is in the text: it has a word, or with compressed instructions a parcel
abbrev pub is_text : Isa → Image → ℕ → Bool
is_text Rv32i image address = has_word image address
is_text Rv32ic image address = has_parcel image address

abbrev pub IsText : Isa → Image → ℕ → Type 0
IsText isa image address = IsTrue (is_text isa image address)

-- the four bytes of which the parcel is the first half, where one segment has them all
abbrev pub long_or_cut : ℕ → Option ℕ → Instruction
long_or_cut parcel None = Cut parcel
long_or_cut parcel (Some long) = Word long

-- the instruction of this length that begins with the parcel
abbrev pub instruction_of : ℕ → Option ℕ → Length → Instruction
instruction_of parcel long Two = Parcel parcel
instruction_of parcel long Four = long_or_cut parcel long
instruction_of parcel long Longer = Cut parcel

-- the instruction at an address, which is there where the address is in the text
abbrev pub instruction_at : Isa → Image → ℕ → Option Instruction
instruction_at Rv32i image address = option_map Word (word_at image address)
instruction_at Rv32ic image address =
    option_map (λ parcel. instruction_of parcel (long_at image address) (length_of parcel)) (parcel_at image address)

-- how many bytes it has
abbrev pub bytes_of : Instruction → ℕ
bytes_of (Word code) = 4
bytes_of (Parcel code) = 2
bytes_of (Cut code) = 2

-- these bytes as a number, little endian
abbrev pub code_of : Instruction → ℕ
code_of (Word code) = code
code_of (Parcel code) = code
code_of (Cut code) = code

-- its kind by itself
abbrev pub instruction_kind : Instruction → Kind
instruction_kind (Word code) = kind_of code
instruction_kind (Parcel code) = parcel_kind_of code
instruction_kind (Cut code) = Illegal

-- the address after it, modulo 2 ^ 32
abbrev pub address_after : ℕ → Instruction → ℕ
address_after address instruction = (address + bytes_of instruction) % 2 ^ 32

-- four bytes are fetched in two parts where a cache line begins in their middle
abbrev pub parts_of : ℕ → ℕ → Option Instruction → ℕ
parts_of line address (Some (Word code)) = if (address + 2) % line == 0 then 2 else 1
parts_of line address (Some (Parcel code)) = 1
parts_of line address (Some (Cut code)) = 1
parts_of line address None = 1

-- in how many parts the instruction at an address is fetched: a word of RV32I lies in one line
abbrev pub parts_at : Isa → Image → ℕ → ℕ → ℕ
parts_at Rv32i image line address = 1
parts_at Rv32ic image line address = parts_of line address (instruction_at Rv32ic image address)
