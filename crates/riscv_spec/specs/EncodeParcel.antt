-- Parcels put together from their fields, as the formats of the C extension in the RISC-V unprivileged manual lay them
-- out.
use Rattle.std.specs.Prelude.{ℕ, ◌+◌, ◌*◌, ◌^◌, ℤ}
use Rattle.riscv_spec.specs.Encode.{bits_of}
use Rattle.riscv_spec.specs.Field.{field}

-- the CJ format: funct3, imm[11], imm[4], imm[9:8], imm[10], imm[6], imm[7], imm[3:1], imm[5], quadrant
abbrev pub cj_format : ℕ → ℕ → ℕ
cj_format funct3 immediate =
    2 ^ 13 * funct3
    + (2 ^ 12 * field 11 1 immediate
    + (2 ^ 11 * field 4 1 immediate
    + (2 ^ 9 * field 8 2 immediate
    + (2 ^ 8 * field 10 1 immediate
    + (2 ^ 7 * field 6 1 immediate
    + (2 ^ 6 * field 7 1 immediate + (2 ^ 3 * field 1 3 immediate + (2 ^ 2 * field 5 1 immediate + 0b01))))))))

-- a C.JAL, with funct3 001, or a C.J, with 101
abbrev pub encode_cj : ℕ → ℤ → ℕ
encode_cj funct3 offset = cj_format funct3 (bits_of 12 offset)

-- the CB format: funct3, imm[8], imm[4:3], the register's number less 8, imm[7:6], imm[2:1], imm[5], quadrant
abbrev pub cb_format : ℕ → ℕ → ℕ → ℕ
cb_format funct3 register immediate =
    2 ^ 13 * funct3
    + (2 ^ 12 * field 8 1 immediate
    + (2 ^ 10 * field 3 2 immediate
    + (2 ^ 7 * register
    + (2 ^ 5 * field 6 2 immediate + (2 ^ 3 * field 1 2 immediate + (2 ^ 2 * field 5 1 immediate + 0b01))))))

-- a C.BEQZ, with funct3 110, or a C.BNEZ, with 111
abbrev pub encode_cb : ℕ → ℕ → ℤ → ℕ
encode_cb funct3 register offset = cb_format funct3 register (bits_of 9 offset)

-- the CR format: funct4, rs1, rs2, quadrant
abbrev pub encode_cr : ℕ → ℕ → ℕ → ℕ
encode_cr funct4 rs1 rs2 = 2 ^ 12 * funct4 + (2 ^ 7 * rs1 + (2 ^ 2 * rs2 + 0b10))
