-- What is left of the table of parcels once the quadrant is known.
use Rattle.std.proofs.Common.{◌≡◌, ◌≢◌, ℕ, false, ◌==◌, ap, arith}
use Rattle.std.proofs.lemmas.Bool.{ne_eqb}
use Rattle.std.specs.Prelude.{if◌then◌else◌}
use Rattle.riscv_spec.specs.CompressedTable.{parcel_kind_of}
use Rattle.riscv_spec.specs.Parcel.{quadrant, parcel_funct3, cj_offset, cb_offset, is_register_jump, widened_jump}
use Rattle.riscv_spec.specs.Table.{kind_of}
use Rattle.riscv_spec.specs.declared.kind.Link.TheVariants.{X1}
use Rattle.riscv_spec.specs.declared.kind.Kind.TheVariants.{Plain, Branch, Jump, Call, Stop, Illegal}

-- a parcel of another quadrant is another parcel
other_parcel : (parcel other : ℕ) → quadrant parcel ≢ quadrant other → (parcel == other) ≡ false
other_parcel parcel other apart = ne_eqb parcel other (λ same. apart (ap quadrant same))

pub other_row : (parcel : ℕ) → quadrant parcel ≢ 1 → quadrant parcel ≢ 2
    → parcel_kind_of parcel ≡ (if parcel == 0 then Illegal else Plain)
unfolding parcel_kind_of
other_row parcel one two =
    let ebreak : (parcel == 0x9002) ≡ false = other_parcel parcel 0x9002 two in
    rw (ne_eqb (quadrant parcel) 1 one, ne_eqb (quadrant parcel) 2 two, ebreak)

pub quadrant_1_row : (parcel : ℕ) → quadrant parcel ≡ 1 → parcel_kind_of parcel ≡
    (if parcel_funct3 parcel == 0b001 then Call (cj_offset parcel) X1
    else if parcel_funct3 parcel == 0b101 then Jump (cj_offset parcel)
    else if parcel_funct3 parcel == 0b110 then Branch (cb_offset parcel)
    else if parcel_funct3 parcel == 0b111 then Branch (cb_offset parcel) else Plain)
unfolding parcel_kind_of
quadrant_1_row parcel h =
    let zero : (parcel == 0) ≡ false = other_parcel parcel 0 (omega (arith, h)) in
    let ebreak : (parcel == 0x9002) ≡ false = other_parcel parcel 0x9002 (omega (arith, h)) in
    rw (zero, ebreak, h)

pub quadrant_2_row : (parcel : ℕ) → quadrant parcel ≡ 2 → parcel_kind_of parcel ≡
    (if is_register_jump parcel then kind_of (widened_jump parcel)
    else if parcel == 0x9002 then Stop else Plain)
unfolding parcel_kind_of
quadrant_2_row parcel h =
    let zero : (parcel == 0) ≡ false = other_parcel parcel 0 (omega (arith, h)) in
    rw (zero, h)
