-- The fields of a 32-bit instruction word, as the RISC-V unprivileged manual names them.
use Rattle.std.specs.Prelude.{ℕ, ◌/◌, ◌%◌, ◌^◌, Bool, List, nat_eq}
use Rattle.std.specs.List.{list_any}

-- `count` bits of a word, from the bit `low` on
abbrev pub field : ℕ → ℕ → ℕ → ℕ
field low count word = word / 2 ^ low % 2 ^ count

-- bits 6 to 0
abbrev pub opcode : ℕ → ℕ
opcode word = field 0 7 word

-- bits 11 to 7
abbrev pub rd : ℕ → ℕ
rd word = field 7 5 word

-- bits 14 to 12
abbrev pub funct3 : ℕ → ℕ
funct3 word = field 12 3 word

-- bits 19 to 15
abbrev pub rs1 : ℕ → ℕ
rs1 word = field 15 5 word

-- bits 31 to 25
abbrev pub funct7 : ℕ → ℕ
funct7 word = field 25 7 word

-- bits 31 to 20, unsigned
abbrev pub imm12 : ℕ → ℕ
imm12 word = field 20 12 word

-- the number is one of these
abbrev pub is_among : List ℕ → ℕ → Bool
is_among numbers n = list_any (nat_eq n) numbers
