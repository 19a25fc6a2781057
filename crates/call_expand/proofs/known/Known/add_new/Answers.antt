use Rattle.std.proofs.Common.{refl}
use Rattle.call_expand.proofs.Ordered.{point}
use Rattle.call_expand.proofs.Numbered.{added-more, added-all}
use Rattle.call_expand.proofs.known.Known.add_new.Goals as goal

pub loop-point-preserved : goal.loop-point-preserved
loop-point-preserved c =
    added-more c.args.self.now c.args.points.now c.loop-point.point-index _ _ _ (point 0 0) c.loop-point-test.true refl
    c.loop-point.invariant c.in_ok-add_if_new.ensures

pub returns : goal.returns
returns c =
    added-all c.args.self.now c.args.points.now c.loop-point.self c.loop-point.point-index c.loop-point-test.false
    c.loop-point.invariant
