-- Pairs: an AUIPC and, in the next word, a JALR through the register that it set. Together they lead to a known place.
use Rattle.std.specs.Prelude.{ℕ, Bool, not, ◌&&◌, ℤ, ◌+ℤ◌, Option, Some, None, ◌==◌, if◌then◌else◌}
use Rattle.riscv_spec.specs.Field.{opcode, rd, funct3, rs1}
use Rattle.riscv_spec.specs.Immediate.{jalr_immediate, auipc_immediate}

abbrev pub is_pair : ℕ → ℕ → Bool
is_pair previous word =
    (opcode previous == 0b0010111 && not (rd previous == 0))
    && (opcode word == 0b1100111 && (funct3 word == 0 && rs1 word == rd previous))

-- where a pair leads, in bytes from the AUIPC's address; bit 0 is cleared only of the address itself
unfoldable pub pair_of : ℕ → ℕ → Option ℤ
pair_of previous word =
    if is_pair previous word then Some (auipc_immediate previous +ℤ jalr_immediate word) else None
