-- What is left of the table of kinds once the opcode is known.
use Rattle.std.proofs.Common.{◌≡◌, ◌≢◌, ℕ, ◌∷◌, [], ◌&&◌, ◌==◌}
use Rattle.std.proofs.lemmas.Bool.{ne_eqb}
use Rattle.std.specs.Prelude.{false, if◌then◌else◌}
use Rattle.riscv_spec.specs.Field.{opcode, rd, funct3, rs1, imm12, is_among}
use Rattle.riscv_spec.specs.Immediate.{branch_offset}
use Rattle.riscv_spec.specs.Table.{kind_of, jal_kind, return_kind, link_named, has_funct3, has_funct7}
use Rattle.riscv_spec.specs.declared.kind.Kind.TheVariants.{Plain, Branch, Computed, Stop, Illegal}

pub lui_row : (word : ℕ) → opcode word ≡ 0b0110111 → kind_of word ≡ Plain
unfolding kind_of
lui_row word h = rw h

pub auipc_row : (word : ℕ) → opcode word ≡ 0b0010111 → kind_of word ≡ Plain
unfolding kind_of
auipc_row word h = rw h

pub jal_row : (word : ℕ) → opcode word ≡ 0b1101111 → kind_of word ≡ jal_kind (link_named (rd word)) word
unfolding kind_of
jal_row word h = rw h

pub jalr_row : (word : ℕ) → opcode word ≡ 0b1100111 → kind_of word ≡
    (if funct3 word == 0 && (rd word == 0 && imm12 word == 0) then return_kind (link_named (rs1 word))
    else if funct3 word == 0 then Computed else Illegal)
unfolding kind_of
jalr_row word h = rw h

pub branch_row : (word : ℕ) → opcode word ≡ 0b1100011 → kind_of word ≡
    (if has_funct3 (0 ∷ 1 ∷ 4 ∷ 5 ∷ 6 ∷ 7 ∷ []) word then Branch (branch_offset word) else Illegal)
unfolding kind_of
branch_row word h = rw h

pub load_row : (word : ℕ) → opcode word ≡ 0b0000011 → kind_of word ≡
    (if has_funct3 (0 ∷ 1 ∷ 2 ∷ 4 ∷ 5 ∷ []) word then Plain else Illegal)
unfolding kind_of
load_row word h = rw h

pub store_row : (word : ℕ) → opcode word ≡ 0b0100011 → kind_of word ≡
    (if has_funct3 (0 ∷ 1 ∷ 2 ∷ []) word then Plain else Illegal)
unfolding kind_of
store_row word h = rw h

pub op_imm_row : (word : ℕ) → opcode word ≡ 0b0010011 → kind_of word ≡
    (if has_funct3 (0 ∷ 2 ∷ 3 ∷ 4 ∷ 6 ∷ 7 ∷ []) word then Plain
    else if funct3 word == 1 && has_funct7 (0b0000000 ∷ []) word then Plain
    else if funct3 word == 5 && has_funct7 (0b0000000 ∷ 0b0100000 ∷ []) word then Plain else Illegal)
unfolding kind_of
op_imm_row word h = rw h

pub op_row : (word : ℕ) → opcode word ≡ 0b0110011 → kind_of word ≡
    (if has_funct7 (0b0000000 ∷ 0b0000001 ∷ []) word then Plain
    else if has_funct7 (0b0100000 ∷ []) word && has_funct3 (0 ∷ 5 ∷ []) word then Plain else Illegal)
unfolding kind_of
op_row word h = rw h

pub misc_mem_row : (word : ℕ) → opcode word ≡ 0b0001111 → kind_of word ≡
    (if has_funct3 (0 ∷ 1 ∷ []) word then Plain else Illegal)
unfolding kind_of
misc_mem_row word h = rw h

pub system_row : (word : ℕ) → opcode word ≡ 0b1110011 → kind_of word ≡
    (if word == 0x00000073 then Plain
    else if is_among (0x00100073 ∷ 0x30200073 ∷ 0x10500073 ∷ []) word then Stop
    else if has_funct3 (1 ∷ 2 ∷ 3 ∷ 5 ∷ 6 ∷ 7 ∷ []) word then Plain else Illegal)
unfolding kind_of
system_row word h = rw h

pub no_row : (word : ℕ)
    → opcode word ≢ 0b0110111 → opcode word ≢ 0b0010111 → opcode word ≢ 0b1101111 → opcode word ≢ 0b1100111
    → opcode word ≢ 0b1100011 → opcode word ≢ 0b0000011 → opcode word ≢ 0b0100011 → opcode word ≢ 0b0010011
    → opcode word ≢ 0b0110011 → opcode word ≢ 0b0001111 → opcode word ≢ 0b1110011 → kind_of word ≡ Illegal
unfolding kind_of
no_row word lui auipc jal jalr branch load store op_imm op misc_mem system =
    let no : (code : ℕ) → opcode word ≢ code → (opcode word == code) ≡ false = ne_eqb (opcode word) in
    rw (
      no 0b0110111 lui,
      no 0b0010111 auipc,
      no 0b1101111 jal,
      no 0b1100111 jalr,
      no 0b1100011 branch,
      no 0b0000011 load,
      no 0b0100011 store,
      no 0b0010011 op_imm,
      no 0b0110011 op,
      no 0b0001111 misc_mem,
      no 0b1110011
          system,
    )
