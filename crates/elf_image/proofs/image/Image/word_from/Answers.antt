use Rattle.std.proofs.Common.{List, ap, subst, ◌∙◌}
use Rattle.elf_spec.specs.declared.segment.Segment.{Segment}
use Rattle.elf_spec.specs.Image.{Image}
use Rattle.elf_image.specs.Among.{IsNextAmong}
use Rattle.elf_image.proofs.Next.{next_text}
use Rattle.elf_image.proofs.image.Image.word_from.Goals as goal

pub returns : goal.returns
returns c =
    let P : List Segment → Type 0 = λ segments. IsNextAmong 4 segments c.args.p c.next_from.result in
    let same = c.deref.ensures.value ∙ ap (λ (i : Image). i.segments) c.self.view_is in
    next_text c.args.self.now c.args.p c.next_from.result (subst P same c.next_from.ensures)
