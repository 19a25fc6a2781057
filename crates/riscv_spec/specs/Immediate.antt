-- Immediates, put together from the fields in which the RISC-V unprivileged manual scatters their bits.
use Rattle.std.specs.Prelude.{ℕ, ◌+◌, ◌-◌, ◌*◌, ◌^◌, ℤ, pos, negsuc, nat_lt, if◌then◌else◌}
use Rattle.riscv_spec.specs.Field.{field, imm12}

-- a number of `bits` bits, read as two's complement
abbrev pub signed : ℕ → ℕ → ℤ
signed bits n = if nat_lt n (2 ^ (bits - 1)) then pos n else negsuc (2 ^ bits - 1 - n)

-- JAL: offset bits 20, 10 to 1, 11 and 19 to 12, from bit 31 downwards
abbrev pub jal_bits : ℕ → ℕ
jal_bits word = 2 ^ 20 * field 31 1 word + (2 ^ 12 * field 12 8 word
    + (2 ^ 11 * field 20 1 word + 2 * field 21 10 word))

abbrev pub jal_offset : ℕ → ℤ
jal_offset word = signed 21 (jal_bits word)

-- BRANCH: offset bits 12 and 10 to 5 from bit 31 downwards, 4 to 1 and 11 from bit 11 downwards
abbrev pub branch_bits : ℕ → ℕ
branch_bits word = 2 ^ 12 * field 31 1 word + (2 ^ 11 * field 7 1 word + (2 ^ 5 * field 25 6 word + 2 * field 8 4 word))

abbrev pub branch_offset : ℕ → ℤ
branch_offset word = signed 13 (branch_bits word)

-- JALR: bits 31 to 20, signed
abbrev pub jalr_immediate : ℕ → ℤ
jalr_immediate word = signed 12 (imm12 word)

-- AUIPC: the word with bits 11 to 0 cleared, signed
abbrev pub auipc_immediate : ℕ → ℤ
auipc_immediate word = signed 32 (2 ^ 12 * field 12 20 word)
