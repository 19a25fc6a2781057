-- A program as it is fetched.
use Rattle.std.specs.Prelude.{ℕ}
use Rattle.elf_spec.specs.Image.{Image}
use Rattle.riscv_spec.specs.declared.parcel.Isa.{Isa}

-- the image, the instructions that it is read as, the bytes of a cache line, and the address at which it begins
pub record Program : Type 0 where
  pub image : Image
  pub isa : Isa
  pub line : ℕ
  pub entry : ℕ

abbrev pub program : Image → Isa → ℕ → ℕ → Program
program image isa line entry = record { image = image; isa = isa; line = line; entry = entry }
