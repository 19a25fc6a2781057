use Rattle.std.proofs.Common.{ap, length, arith}
use Rattle.call_expand.proofs.Further.{few-points}
use Rattle.call_expand.proofs.search.expand.Goals as goal

pub loop-start-smaller : goal.loop-start-smaller
loop-start-smaller c =
    omega (
      arith,
      few-points c.loop-start.invariant,
      ap length c.points.ensures,
      ap length c.points-end.ensures,
      c.loop-start.invariant.within,
      c.loop-start-test.true,
    )
