-- What the text does to the flow of control at an address, with targets in place of offsets.
-- The kinds are those of the instructions; pairs come first, and are this project's own. Addresses are modulo 2 ^ 32.
use Rattle.std.specs.Prelude.{ℕ, ◌+◌, ◌-◌, ◌*◌, ◌/◌, ◌%◌, ◌^◌, Bool, not, ◌&&◌, ◌||◌, ◌==◌, ℤ, pos, negsuc, Option, Some, None, is_some, unwrap_or, option_map, option_and_then}
use Rattle.elf_spec.specs.Image.{Image}
use Rattle.elf_spec.specs.Word.{word_at}
use Rattle.elf_spec.specs.Parcel.{long_at}
use Rattle.riscv_spec.specs.declared.kind.Link.{Link}
use Rattle.riscv_spec.specs.declared.kind.Kind.{Kind}
use Rattle.riscv_spec.specs.declared.kind.Kind.TheVariants as kinds
use Rattle.riscv_spec.specs.declared.parcel.Isa.{Isa}
use Rattle.riscv_spec.specs.declared.parcel.Isa.TheVariants.{Rv32i, Rv32ic}
use Rattle.riscv_spec.specs.Field.{rd}
use Rattle.riscv_spec.specs.Table.{link_named}
use Rattle.riscv_spec.specs.Pair.{pair_of}
use Rattle.riscv_spec.specs.Parcel.{widened}
use Rattle.flow_spec.specs.declared.instruction.Instruction.{Instruction}
use Rattle.flow_spec.specs.declared.instruction.Instruction.TheVariants.{Word, Parcel, Cut}
use Rattle.flow_spec.specs.Instruction.{is_text, instruction_at, instruction_kind}

pub data Transfer : Type 0 where
  plain : Transfer
  branch : ℕ → Transfer
  jump : ℕ → Transfer
  call : ℕ → Link → Transfer
  returning : Link → Transfer
  computed : Transfer
  stop : Transfer
  illegal : Transfer

-- the address that lies this many bytes further on
abbrev pub plus : ℕ → ℤ → ℕ
plus address (pos n) = (address + n) % 2 ^ 32
plus address (negsuc n) = (address + 2 ^ 32 - (n + 1)) % 2 ^ 32

-- the address of the four bytes before
abbrev pub before : ℕ → ℕ
before address = (address + 2 ^ 32 - 4) % 2 ^ 32

-- an instruction by itself
abbrev pub transfer_by : ℕ → Kind → Transfer
transfer_by address kinds.Plain = plain
transfer_by address (kinds.Branch offset) = branch (plus address offset)
transfer_by address (kinds.Jump offset) = jump (plus address offset)
transfer_by address (kinds.Call offset link) = call (plus address offset) link
transfer_by address (kinds.Return link) = returning link
transfer_by address kinds.Computed = computed
transfer_by address kinds.Stop = stop
transfer_by address kinds.Illegal = illegal

-- the word that may be the first half of a pair whose second half is at the address
abbrev pub first_half : Isa → Image → ℕ → Option ℕ
first_half Rv32i image address = word_at image (before address)
first_half Rv32ic image address = long_at image (before address)

-- the word that may be a second half: of two bytes, the JALR that a C.JR or C.JALR stands for
abbrev pub word_of : Instruction → Option ℕ
word_of (Word code) = Some code
word_of (Parcel code) = widened code
word_of (Cut code) = None

abbrev pub second_half : Isa → Image → ℕ → Option ℕ
second_half isa image address = option_and_then word_of (instruction_at isa image address)

-- the address with bit 0 cleared
abbrev pub evened : ℕ → ℕ
evened address = 2 * (address / 2)

-- a pair is a call where it links, else a jump
abbrev pub linking : ℕ → Option Link → Transfer
linking target None = jump target
linking target (Some link) = call target link

-- where the pair of this number leads whose second half is at the address
abbrev pub pair_transfer : ℕ → ℕ → ℤ → Transfer
pair_transfer address second number = linking (evened (plus (before address) number)) (link_named (rd second))

-- where these two halves lead, if they are a pair
abbrev pub pair_by : ℕ → ℕ → ℕ → Option Transfer
pair_by address first second = option_map (pair_transfer address second) (pair_of first second)

-- where the pair leads whose second half is at the address, if there is one
abbrev pub pair_at : Isa → Image → ℕ → Option Transfer
pair_at isa image address =
    option_and_then (λ first. option_and_then (pair_by address first) (second_half isa image address))
    (first_half isa image address)

abbrev pub is_second_half : Isa → Image → ℕ → Bool
is_second_half isa image address = is_some (pair_at isa image address)

-- where control goes from the instruction at the address: first as a pair says, then by its kind
abbrev pub transfer_at : Isa → Image → ℕ → Instruction → Transfer
transfer_at isa image address instruction =
    unwrap_or (pair_at isa image address) (transfer_by address (instruction_kind instruction))

-- a jump, branch or call may lead here: in the text, and not into the middle of a pair
abbrev pub is_good_target : Isa → Image → ℕ → Bool
is_good_target isa image address = is_text isa image address && not (is_second_half isa image address)

-- control may go on to here from the instruction at an address: in the text, and into the middle of no other pair
abbrev pub is_good_next : Isa → Image → ℕ → ℕ → Bool
is_good_next isa image address next =
    is_text isa image next && (not (is_second_half isa image next) || before next == address)
