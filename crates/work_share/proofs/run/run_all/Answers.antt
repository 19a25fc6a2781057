use Rattle.std.proofs.Common.{rules}
use Rattle.std.proofs.lemmas.Result.{IfOk-weaker}
use Rattle.work_share.proofs.Stations.{back_again, right_at}
use Rattle.work_share.proofs.run.run_all.Goals as goal

pub returns-in_err-results-clause-fit : goal.returns-in_err-results-clause-fit
returns-in_err-results-clause-fit g c =
    (back_again _ (g.J.Job.goes_on c.args.job.now) _ _ _ _ c.open.new.stations.items _ c.open.ensures.states
    c.close.ensures.states c.work_each.ensures.over c.work_each.ensures.onward).0

pub returns-in_err-results-clause-onward : goal.returns-in_err-results-clause-onward
returns-in_err-results-clause-onward g c k s inside =
    (back_again _ (g.J.Job.goes_on c.args.job.now) _ _ _ _ c.open.new.stations.items _ c.open.ensures.states
    c.close.ensures.states c.work_each.ensures.over c.work_each.ensures.onward).1 k s (search rules)

pub returns-clause-fit : goal.returns-clause-fit
returns-clause-fit g c =
    (back_again _ (g.J.Job.goes_on c.args.job.now) _ _ _ _ c.open.new.stations.items _ c.open.ensures.states
    c.close.ensures.states c.work_each.ensures.over c.work_each.ensures.onward).0

pub returns-clause-onward : goal.returns-clause-onward
returns-clause-onward g c k s inside =
    (back_again _ (g.J.Job.goes_on c.args.job.now) _ _ _ _ c.open.new.stations.items _ c.open.ensures.states
    c.close.ensures.states c.work_each.ensures.over c.work_each.ensures.onward).1 k s (search rules)

pub returns-clause-right : goal.returns-clause-right
returns-clause-right g c =
    IfOk-weaker c.in_order.result _ _
    (λ all each i d lt.
    right_at (g.J.Job.is_right c.args.job.now) c.close.new.states.items c.in_ok-results.results.items i _
    c.in_ok-results.ensures.right (each i d lt)) c.in_order.ensures.each
