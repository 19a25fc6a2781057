-- The opcode and funct3 lead to the row of BRANCH, and that row has the word's offset.
use Rattle.std.proofs.Common.{◌≡◌, ◌≢◌, ◌∙◌, ℕ, ◌<◌, ◌∷◌, [], true, ap, arith}
use Rattle.riscv_spec.specs.Encode.{encode_branch}
use Rattle.riscv_spec.specs.Field.{opcode, funct3, is_among}
use Rattle.riscv_spec.specs.Immediate.{branch_offset}
use Rattle.riscv_spec.specs.Table.{kind_of}
use Rattle.riscv_spec.specs.declared.kind.Kind.TheVariants.{Branch}
use Rattle.rv_decode.proofs.Rows.{branch_row}
use Rattle.rv_decode.proofs.laws.branch_round_trip.Goals as goal

is_comparison : (n : ℕ) → n < 8 → n ≢ 2 → n ≢ 3 → is_among (0 ∷ 1 ∷ 4 ∷ 5 ∷ 6 ∷ 7 ∷ []) n ≡ true
is_comparison n below two three = grind arith

kind_of-comparison : (word n : ℕ) → opcode word ≡ 0b1100011 → funct3 word ≡ n → n < 8 → n ≢ 2 → n ≢ 3
    → kind_of word ≡ Branch (branch_offset word)
kind_of-comparison word n code comparison below two three =
    branch_row word code ∙ rw (comparison, is_comparison n below two three)

pub returns-clause-kind : goal.returns-clause-kind
returns-clause-kind c =
    let word = encode_branch c.args.funct3 c.args.rs1 c.args.rs2 c.args.offset in
    let offset : branch_offset word ≡ c.args.offset = grind arith in
    kind_of-comparison word c.args.funct3 (omega arith) (omega arith) (omega arith) (omega arith) (omega arith)
    ∙ ap Branch offset
