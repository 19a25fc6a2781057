-- All sides compute.
use Rattle.std.proofs.Common.{refl}
use Rattle.elf_spec.specs.Header.{header}
use Rattle.elf_spec.specs.Image.{image_of}
use Rattle.elf_spec.specs.Word.{word_at}
use Rattle.worked_examples.proofs.laws.worked_segments.Goals as goal

pub returns-clause-segments : goal.returns-clause-segments
unfolding image_of header
returns-clause-segments c = refl

pub returns-clause-words : goal.returns-clause-words
unfolding word_at
returns-clause-words c = refl
