-- The table of parcels: rows of a condition and a kind, of which the first that a parcel of length Two meets decides.
-- The other instructions of two bytes compute, load or store. Reserved encodings aren't told from them.
use Rattle.std.specs.Prelude.{ℕ, Bool, ◌&&◌, List, [], ◌∷◌, ◌==◌, if◌then◌else◌}
use Rattle.riscv_spec.specs.declared.kind.Link.TheVariants.{X1}
use Rattle.riscv_spec.specs.declared.kind.Kind.{Kind}
use Rattle.riscv_spec.specs.declared.kind.Kind.TheVariants.{Plain, Branch, Jump, Call, Stop, Illegal}
use Rattle.riscv_spec.specs.Parcel.{quadrant, parcel_funct3, cj_offset, cb_offset, is_register_jump, widened_jump}
use Rattle.riscv_spec.specs.Table.{kind_of}

pub record ParcelRow : Type 0 where
  pub meets : ℕ → Bool
  pub kind : ℕ → Kind

abbrev pub parcel_row : (ℕ → Bool) → (ℕ → Kind) → ParcelRow
parcel_row meets kind = record { meets = meets; kind = kind }

abbrev pub in_quadrant : ℕ → ℕ → ℕ → Bool
in_quadrant number funct3 parcel = quadrant parcel == number && parcel_funct3 parcel == funct3

abbrev pub parcel_rows : List ParcelRow
parcel_rows =
    parcel_row (λ parcel. parcel == 0) (λ parcel. Illegal)  -- the defined illegal instruction
    ∷ parcel_row (in_quadrant 0b01 0b001) (λ parcel. Call (cj_offset parcel) X1)  -- C.JAL
    ∷ parcel_row (in_quadrant 0b01 0b101) (λ parcel. Jump (cj_offset parcel))  -- C.J
    ∷ parcel_row (in_quadrant 0b01 0b110) (λ parcel. Branch (cb_offset parcel))  -- C.BEQZ
    ∷ parcel_row (in_quadrant 0b01 0b111) (λ parcel. Branch (cb_offset parcel))  -- C.BNEZ
    ∷ parcel_row is_register_jump (λ parcel. kind_of (widened_jump parcel))  -- C.JR, C.JALR
    ∷ parcel_row (λ parcel. parcel == 0x9002) (λ parcel. Stop)  -- C.EBREAK
    ∷ []

abbrev pub parcel_kind_in : List ParcelRow → ℕ → Kind
parcel_kind_in [] parcel = Plain
parcel_kind_in (r ∷ later) parcel = if r.meets parcel then r.kind parcel else parcel_kind_in later parcel

-- the kind of a parcel of length Two by itself
unfoldable pub parcel_kind_of : ℕ → Kind
parcel_kind_of parcel = parcel_kind_in parcel_rows parcel
