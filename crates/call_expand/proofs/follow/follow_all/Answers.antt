use Rattle.std.proofs.Common.{refl, inl, inr, ⊎_elim, arith}
use Rattle.std.proofs.lemmas.Result.{err_from_is_err_and}
use Rattle.call_expand.specs.Point.{IsPoint}
use Rattle.call_expand.proofs.Ordered.{point}
use Rattle.call_expand.proofs.Zipped.{all-at}
use Rattle.call_expand.proofs.Edges.{same-point, followed-more, followed-fault, followed-all}
use Rattle.call_expand.proofs.follow.follow_all.Goals as goal

pub edges_of-requires-clause-point : goal.edges_of-requires-clause-point
edges_of-requires-clause-point c =
    let program = c.args.program.now in
    same-point program c.args.stacks.now c.loop-point.stacks c.loop-point.invariant.goes_on _
    (all-at (IsPoint program c.args.stacks.now) c.args.points.now c.loop-point.point-index (point 0 0) c.requires.points
    c.loop-point-test.true)

pub returns-in_err-next-clause-fault : goal.returns-in_err-next-clause-fault
returns-in_err-next-clause-fault c =
    let (_, is, same) = err_from_is_err_and c.from_residual.result c.from_residual.ensures.1 in
    rw (is, same)
    (⊎_elim (λ memory. inl memory)
    (λ fails.
    inr (followed-fault c.requires.points c.loop-point-test.true c.loop-point.invariant _ (point 0 0)
    c.in_err-next.field-0.0 refl fails))
    c.in_err-next.ensures.fault)

pub loop-point-preserved : goal.loop-point-preserved
loop-point-preserved c =
    followed-more c.requires.points c.loop-point-test.true c.loop-point.invariant c.edges_of.new.stacks _ (point 0 0)
    c.in_ok-next.next c.push.new.edges.items refl c.in_ok-next.ensures.goes_on c.in_ok-next.ensures.one
    c.in_ok-next.ensures.edge c.in_ok-push.ensures

pub returns-clause-followed : goal.returns-clause-followed
returns-clause-followed c =
    followed-all (omega (arith, c.loop-point.auto.point-index-end)) c.loop-point-test.false c.loop-point.invariant
