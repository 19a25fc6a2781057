use Rattle.std.proofs.Common.{arith}
use Rattle.std.proofs.lemmas.Grind.{common_steps}
use Rattle.elf_spec.specs.Header.{header}
use Rattle.elf_image.proofs.elf_file.ElfFile.program_header.Goals as goal

pub returns : goal.returns
unfolding header
returns c = grind (arith, common_steps)
