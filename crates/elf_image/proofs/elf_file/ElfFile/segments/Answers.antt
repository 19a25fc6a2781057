use Rattle.std.proofs.Common.{◌≡◌, ◌≤◌, ◌∙◌, true, false, ◌-◌, ap, sym, arith}
use Rattle.elf_spec.specs.Header.{e_phnum, header, is_executable}
use Rattle.elf_spec.specs.Image.{segment_of, placed, in_order}
use Rattle.elf_image.specs.declared.header.Header.{Header}
use Rattle.elf_image.proofs.Kept.{segments_from, segments_more, segments_same}
use Rattle.elf_image.proofs.elf_file.ElfFile.segments.Goals as goal

pub loop-index-preserved-in-Continue-1 : goal.loop-index-preserved-in-Continue-1
loop-index-preserved-in-Continue-1 c =
    let file = c.args.self.now in
    let index = c.loop-index.index in
    let count : c.self.inside.header.e_phnum ≡ e_phnum file =
    ap (λ (h : Header). h.e_phnum) c.self.invariant ∙ ap e_phnum c.self.view_is in
    let within : index ≤ e_phnum file = omega arith in
    let is : is_executable (header file (index - 1)) ≡ true = cc in
    let same : placed c.segment_of.result c.loop-index.segments.items
    ≡ placed (segment_of (header file (index - 1))) (in_order (segments_from file index (e_phnum file - index))) =
    cc in
    c.in_ok-put.ensures ∙ same ∙ sym (segments_more file index (e_phnum file) c.loop-index-test.true within is)

pub loop-index-preserved : goal.loop-index-preserved
loop-index-preserved c =
    let file = c.args.self.now in
    let index = c.loop-index.index in
    let count : c.self.inside.header.e_phnum ≡ e_phnum file =
    ap (λ (h : Header). h.e_phnum) c.self.invariant ∙ ap e_phnum c.self.view_is in
    let within : index ≤ e_phnum file = omega arith in
    let is : is_executable (header file (index - 1)) ≡ false = cc in
    c.loop-index.invariant ∙ sym (segments_same file index (e_phnum file) c.loop-index-test.true within is)
