use Rattle.std.proofs.Common.{sym, ◌∙◌, ap, length, arith}
use Rattle.frame_stacks.proofs.Made.{frames_of_zero, frames_of_past}
use Rattle.call_expand.proofs.search.stack_of.Goals as goal

pub returns-else-point-cells-clause-frames : goal.returns-else-point-cells-clause-frames
returns-else-point-cells-clause-frames c =
    frames_of_zero c.args.stacks.now
    ∙ sym (frames_of_past c.args.stacks.now c.args.point.stack
    (omega (arith, ap length c.cells.ensures.same, c.if-point-cells.false)))
