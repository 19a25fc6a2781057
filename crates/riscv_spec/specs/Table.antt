-- The table of kinds: rows of an opcode, a further condition and a kind, of which the first that a word meets decides.
use Rattle.std.specs.Prelude.{ℕ, Bool, true, ◌&&◌, List, [], ◌∷◌, Option, Some, None, ◌==◌, if◌then◌else◌}
use Rattle.riscv_spec.specs.Field.{opcode, rd, funct3, rs1, funct7, imm12, is_among}
use Rattle.riscv_spec.specs.Immediate.{jal_offset, branch_offset}
use Rattle.riscv_spec.specs.declared.kind.Link.{Link}
use Rattle.riscv_spec.specs.declared.kind.Link.TheVariants.{X1, X5}
use Rattle.riscv_spec.specs.declared.kind.Kind.{Kind}
use Rattle.riscv_spec.specs.declared.kind.Kind.TheVariants.{Plain, Branch, Jump, Call, Return, Computed, Stop, Illegal}

-- the link register that a register number names
abbrev pub link_named : ℕ → Option Link
link_named register = if register == 1 then Some X1 else if register == 5 then Some X5 else None

-- a JAL that links is a call
abbrev pub jal_kind : Option Link → ℕ → Kind
jal_kind None word = Jump (jal_offset word)
jal_kind (Some link) word = Call (jal_offset word) link

-- a JALR through a link register is a return
abbrev pub return_kind : Option Link → Kind
return_kind None = Computed
return_kind (Some link) = Return link

pub record Row : Type 0 where
  pub code : ℕ
  pub meets : ℕ → Bool
  pub kind : ℕ → Kind

abbrev pub row : ℕ → (ℕ → Bool) → (ℕ → Kind) → Row
row code meets kind = record { code = code; meets = meets; kind = kind }

abbrev pub any_word : ℕ → Bool
any_word word = true

abbrev pub has_funct3 : List ℕ → ℕ → Bool
has_funct3 numbers word = is_among numbers (funct3 word)

abbrev pub has_funct7 : List ℕ → ℕ → Bool
has_funct7 numbers word = is_among numbers (funct7 word)

abbrev pub plain : ℕ → Kind
plain word = Plain

abbrev pub rows : List Row
rows =
    row 0b0110111 any_word plain  -- LUI
    ∷ row 0b0010111 any_word plain  -- AUIPC
    ∷ row 0b1101111 any_word (λ word. jal_kind (link_named (rd word)) word)  -- JAL
    ∷ row 0b1100111 (λ word. funct3 word == 0 && (rd word == 0 && imm12 word == 0))
    (λ word. return_kind (link_named (rs1 word)))  -- JALR
    ∷ row 0b1100111 (λ word. funct3 word == 0) (λ word. Computed)
    ∷ row 0b1100011 (has_funct3 (0 ∷ 1 ∷ 4 ∷ 5 ∷ 6 ∷ 7 ∷ [])) (λ word. Branch (branch_offset word))  -- BRANCH
    ∷ row 0b0000011 (has_funct3 (0 ∷ 1 ∷ 2 ∷ 4 ∷ 5 ∷ [])) plain  -- LOAD
    ∷ row 0b0100011 (has_funct3 (0 ∷ 1 ∷ 2 ∷ [])) plain  -- STORE
    ∷ row 0b0010011 (has_funct3 (0 ∷ 2 ∷ 3 ∷ 4 ∷ 6 ∷ 7 ∷ [])) plain  -- OP-IMM
    ∷ row 0b0010011 (λ word. funct3 word == 1 && has_funct7 (0b0000000 ∷ []) word) plain  -- SLLI
    ∷ row 0b0010011 (λ word. funct3 word == 5 && has_funct7 (0b0000000 ∷ 0b0100000 ∷ []) word) plain  -- SRLI, SRAI
    ∷ row 0b0110011 (has_funct7 (0b0000000 ∷ 0b0000001 ∷ [])) plain  -- OP, and the M extension
    ∷ row 0b0110011 (λ word. has_funct7 (0b0100000 ∷ []) word && has_funct3 (0 ∷ 5 ∷ []) word) plain  -- SUB, SRA
    ∷ row 0b0001111 (has_funct3 (0 ∷ 1 ∷ [])) plain  -- FENCE, FENCE.I
    ∷ row 0b1110011 (λ word. word == 0x00000073) plain  -- ECALL
    ∷ row 0b1110011 (is_among (0x00100073 ∷ 0x30200073 ∷ 0x10500073 ∷ [])) (λ word. Stop)  -- EBREAK, MRET, WFI
    ∷ row 0b1110011 (has_funct3 (1 ∷ 2 ∷ 3 ∷ 5 ∷ 6 ∷ 7 ∷ [])) plain  -- the CSR instructions
    ∷ []

abbrev pub kind_in : List Row → ℕ → Kind
kind_in [] word = Illegal
kind_in (r ∷ later) word = if opcode word == r.code && r.meets word then r.kind word else kind_in later word

-- the kind of a word by itself
unfoldable pub kind_of : ℕ → Kind
kind_of word = kind_in rows word
