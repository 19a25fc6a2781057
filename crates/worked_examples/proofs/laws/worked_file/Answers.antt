-- All sides compute.
use Rattle.std.proofs.Common.{refl}
use Rattle.elf_spec.specs.Header.{header}
use Rattle.elf_spec.specs.Image.{image_of}
use Rattle.elf_spec.specs.Word.{word_at}
use Rattle.worked_examples.proofs.laws.worked_file.Goals as goal

pub returns-clause-image : goal.returns-clause-image
unfolding image_of header
returns-clause-image c = refl

pub returns-clause-words : goal.returns-clause-words
unfolding word_at
returns-clause-words c = refl

pub returns-clause-refused : goal.returns-clause-refused
unfolding image_of header
returns-clause-refused c = refl
