-- Parcels of 16 bits: how long an instruction is that begins with one, and the fields and the offsets of a compressed
-- instruction, as the chapter on the C extension of the RISC-V unprivileged manual names and scatters them.
use Rattle.std.specs.Prelude.{ℕ, ◌+◌, ◌*◌, ◌^◌, ℤ, Bool, not, ◌&&◌, Option, Some, None, ◌==◌, if◌then◌else◌}
use Rattle.riscv_spec.specs.declared.parcel.Length.{Length}
use Rattle.riscv_spec.specs.declared.parcel.Length.TheVariants.{Two, Four, Longer}
use Rattle.riscv_spec.specs.Field.{field}
use Rattle.riscv_spec.specs.Immediate.{signed}

-- two bytes unless bits 1 and 0 are set, and more than four where bits 4 to 2 are set besides
abbrev pub length_of : ℕ → Length
length_of parcel =
    if not (field 0 2 parcel == 0b11) then Two else if field 0 5 parcel == 0b11111 then Longer else Four

-- the quadrant: bits 1 and 0
abbrev pub quadrant : ℕ → ℕ
quadrant parcel = field 0 2 parcel

-- bits 15 to 13
abbrev pub parcel_funct3 : ℕ → ℕ
parcel_funct3 parcel = field 13 3 parcel

-- bit 12
abbrev pub bit_12 : ℕ → ℕ
bit_12 parcel = field 12 1 parcel

-- bits 11 to 7, which C.JR and C.JALR jump through
abbrev pub parcel_rs1 : ℕ → ℕ
parcel_rs1 parcel = field 7 5 parcel

-- bits 6 to 2
abbrev pub parcel_rs2 : ℕ → ℕ
parcel_rs2 parcel = field 2 5 parcel

-- the CJ format: offset bits 11, 4, 9, 8, 10, 6, 7, 3, 2, 1 and 5, from bit 12 downwards
abbrev pub cj_bits : ℕ → ℕ
cj_bits parcel =
    2 ^ 11 * field 12 1 parcel
    + (2 ^ 10 * field 8 1 parcel
    + (2 ^ 8 * field 9 2 parcel
    + (2 ^ 7 * field 6 1 parcel
    + (2 ^ 6 * field 7 1 parcel
    + (2 ^ 5 * field 2 1 parcel + (2 ^ 4 * field 11 1 parcel + 2 * field 3 3 parcel))))))

abbrev pub cj_offset : ℕ → ℤ
cj_offset parcel = signed 12 (cj_bits parcel)

-- the CB format: offset bits 8, 4 and 3 from bit 12 downwards, and 7, 6, 2, 1 and 5 from bit 6 downwards
abbrev pub cb_bits : ℕ → ℕ
cb_bits parcel =
    2 ^ 8 * field 12 1 parcel
    + (2 ^ 6 * field 5 2 parcel + (2 ^ 5 * field 2 1 parcel + (2 ^ 3 * field 10 2 parcel + 2 * field 3 2 parcel)))

abbrev pub cb_offset : ℕ → ℤ
cb_offset parcel = signed 9 (cb_bits parcel)

-- C.JR, or C.JALR, where bit 12 is set: through any register but x0
abbrev pub is_register_jump : ℕ → Bool
is_register_jump parcel =
    (quadrant parcel == 0b10 && parcel_funct3 parcel == 0b100)
    && (parcel_rs2 parcel == 0 && not (parcel_rs1 parcel == 0))

-- the JALR without offset that they stand for: C.JR with x0 as its rd, and C.JALR with x1
abbrev pub widened_jump : ℕ → ℕ
widened_jump parcel = 2 ^ 15 * parcel_rs1 parcel + (2 ^ 7 * bit_12 parcel + 0b1100111)

-- the word that a C.JR or C.JALR stands for, and none for any other parcel
unfoldable pub widened : ℕ → Option ℕ
widened parcel = if is_register_jump parcel then Some (widened_jump parcel) else None
