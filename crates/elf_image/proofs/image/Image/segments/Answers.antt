use Rattle.std.proofs.Common.{length, All, subst}
use Rattle.elf_spec.specs.Image.{Image}
use Rattle.elf_image.specs.Fits.{SegmentFits}
use Rattle.elf_image.proofs.Next.{text_below, parcel_below}
use Rattle.elf_image.proofs.image.Image.segments.Goals as goal

pub returns-clause-words : goal.returns-clause-words
returns-clause-words c =
    let P : Image → Type 0 = λ image. All (SegmentFits (length image.file)) image.segments in
    λ p has. text_below c.args.self.now p (subst P c.self.view_is c.self.invariant.each) has

pub returns-clause-parcels : goal.returns-clause-parcels
returns-clause-parcels c =
    let P : Image → Type 0 = λ image. All (SegmentFits (length image.file)) image.segments in
    λ p has. parcel_below c.args.self.now p (subst P c.self.view_is c.self.invariant.each) has
