use Rattle.std.proofs.Common.{arith}
use Rattle.elf_image.proofs.Next.{rounded_next}
use Rattle.elf_image.proofs.image.first_in.Goals as goal

pub returns-then-least-size : goal.returns-then-least-size
returns-then-least-size c =
    rounded_next c.args.size c.div_ceil.result c.max.result c.args.p c.args.segment.now c.requires.some c.max.ensures
    c.div_ceil.ensures (omega arith)
