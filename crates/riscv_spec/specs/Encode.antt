-- Words put together from their fields, as the formats of the RISC-V unprivileged manual lay them out.
use Rattle.std.specs.Prelude.{ℕ, ◌+◌, ◌-◌, ◌*◌, ◌^◌, ◌<◌, ℤ, pos, negsuc}
use Rattle.riscv_spec.specs.Field.{field}

-- from -2^(bits - 1) to 2^(bits - 1) - 1
abbrev pub IsSigned : ℕ → ℤ → Type 0
IsSigned bits (pos n) = n < 2 ^ (bits - 1)
IsSigned bits (negsuc n) = n < 2 ^ (bits - 1)

-- the bits of such a number, in two's complement
abbrev pub bits_of : ℕ → ℤ → ℕ
bits_of bits (pos n) = n
bits_of bits (negsuc n) = 2 ^ bits - 1 - n

-- the J-type: imm[20], imm[10:1], imm[11], imm[19:12], rd, opcode
abbrev pub j_type : ℕ → ℕ → ℕ
j_type immediate rd =
    2 ^ 31 * field 20 1 immediate
    + (2 ^ 21 * field 1 10 immediate
    + (2 ^ 20 * field 11 1 immediate + (2 ^ 12 * field 12 8 immediate + (2 ^ 7 * rd + 0b1101111))))

-- a JAL
abbrev pub encode_jal : ℕ → ℤ → ℕ
encode_jal rd offset = j_type (bits_of 21 offset) rd

-- the B-type: imm[12], imm[10:5], rs2, rs1, funct3, imm[4:1], imm[11], opcode
abbrev pub b_type : ℕ → ℕ → ℕ → ℕ → ℕ
b_type immediate rs2 rs1 funct3 =
    2 ^ 31 * field 12 1 immediate
    + (2 ^ 25 * field 5 6 immediate
    + (2 ^ 20 * rs2
    + (2 ^ 15 * rs1
    + (2 ^ 12 * funct3 + (2 ^ 8 * field 1 4 immediate + (2 ^ 7 * field 11 1 immediate + 0b1100011))))))

-- a BRANCH, of which funct3 says what it compares
abbrev pub encode_branch : ℕ → ℕ → ℕ → ℤ → ℕ
encode_branch funct3 rs1 rs2 offset = b_type (bits_of 13 offset) rs2 rs1 funct3

-- a JALR, of the I-type: imm[11:0], rs1, funct3, which is 0, rd, opcode
abbrev pub encode_jalr : ℕ → ℕ → ℤ → ℕ
encode_jalr rd rs1 immediate = 2 ^ 20 * bits_of 12 immediate + (2 ^ 15 * rs1 + (2 ^ 7 * rd + 0b1100111))

-- an AUIPC, of the U-type: imm[31:12], rd, opcode
abbrev pub encode_auipc : ℕ → ℤ → ℕ
encode_auipc rd immediate = 2 ^ 12 * field 12 20 (bits_of 32 immediate) + (2 ^ 7 * rd + 0b0010111)
