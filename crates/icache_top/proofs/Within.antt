-- The text of an image lies among the addresses, whichever its instructions are.
use Rattle.std.proofs.Common.{length, All, arith}
use Rattle.elf_spec.specs.Image.{Image}
use Rattle.elf_image.specs.Fits.{SegmentFits}
use Rattle.elf_image.proofs.Next.{text_below, parcel_below}
use Rattle.riscv_spec.specs.declared.parcel.Isa.{Isa}
use Rattle.riscv_spec.specs.declared.parcel.Isa.TheVariants.{Rv32i, Rv32ic}
use Rattle.report_lines.specs.Findings.{IsWithin}

pub within : (isa : Isa) (image : Image) → All (SegmentFits (length image.file)) image.segments → IsWithin isa image
within Rv32i image fits p text = let ends = text_below image p fits text in omega (arith, ends)
within Rv32ic image fits p text = let ends = parcel_below image p fits text in omega (arith, ends)
