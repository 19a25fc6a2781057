use Rattle.std.proofs.Common.{All, take, None}
use Rattle.elf_image.specs.Among.{IsNextIn}
use Rattle.elf_image.proofs.image.next_from.Given as goal

abbrev pub invariant-loop-segment : goal.invariant-loop-segment
invariant-loop-segment l = All (λ s. IsNextIn l.size s l.p None) (take l.segment-index l.segment-items)
