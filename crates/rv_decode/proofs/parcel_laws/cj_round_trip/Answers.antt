-- The quadrant and funct3 lead to the row of C.JAL or of C.J, and that row has the parcel's offset.
use Rattle.std.proofs.Common.{◌≡◌, ◌∙◌, ℕ, ◌<◌, ◌%◌, ap, arith}
use Rattle.std.specs.Prelude.{ℤ, unsigned_abs}
use Rattle.riscv_spec.specs.Encode.{IsSigned}
use Rattle.riscv_spec.specs.EncodeParcel.{encode_cj}
use Rattle.riscv_spec.specs.Parcel.{quadrant, parcel_funct3, cj_offset}
use Rattle.riscv_spec.specs.declared.kind.Link.TheVariants.{X1}
use Rattle.riscv_spec.specs.declared.kind.Kind.TheVariants.{Call, Jump}
use Rattle.rv_decode.proofs.ParcelRows.{quadrant_1_row}
use Rattle.rv_decode.proofs.parcel_laws.cj_round_trip.Goals as goal

offset_back : (funct3 : ℕ) (offset : ℤ) → funct3 < 8 → unsigned_abs offset % 2 ≡ 0 → IsSigned 12 offset
    → cj_offset (encode_cj funct3 offset) ≡ offset
offset_back funct3 offset format even in_range = grind arith

pub returns-clause-offset : goal.returns-clause-offset
returns-clause-offset c =
    offset_back c.args.funct3 c.args.offset c.requires.format c.requires.even c.requires.in_range

pub returns-clause-call : goal.returns-clause-call
returns-clause-call c =
    let parcel = encode_cj 1 c.args.offset in
    let first : quadrant parcel ≡ 1 = omega arith in
    let jal : parcel_funct3 parcel ≡ 1 = omega arith in
    let offset = offset_back 1 c.args.offset (omega arith) c.requires.even c.requires.in_range in
    quadrant_1_row parcel first ∙ rw jal (ap (λ offset. Call offset X1) offset)

pub returns-clause-jump : goal.returns-clause-jump
returns-clause-jump c =
    let parcel = encode_cj 5 c.args.offset in
    let first : quadrant parcel ≡ 1 = omega arith in
    let jump : parcel_funct3 parcel ≡ 5 = omega arith in
    let offset = offset_back 5 c.args.offset (omega arith) c.requires.even c.requires.in_range in
    quadrant_1_row parcel first ∙ rw jump (ap Jump offset)
