use Rattle.std.proofs.Common.{◌≡◌, ◌-◌}
use Rattle.elf_spec.specs.Header.{e_phnum}
use Rattle.elf_spec.specs.Image.{in_order}
use Rattle.elf_image.proofs.Kept.{segments_from}
use Rattle.elf_image.proofs.elf_file.ElfFile.segments.Given as goal

abbrev pub invariant-loop-index : goal.invariant-loop-index
invariant-loop-index l = l.segments.items ≡ in_order (segments_from l.self l.index (e_phnum l.self - l.index))
