use Rattle.std.proofs.Common.{length, subst, IfOk}
use Rattle.cache_spec.specs.declared.start.Start.{Start}
use Rattle.set_view.specs.View.{View}
use Rattle.node_verdicts.specs.Found.{AreJobsOf}
use Rattle.node_verdicts.proofs.one_set.judge_view.Goals as goal

pub returns-clause-jobs : goal.returns-clause-jobs
returns-clause-jobs c =
    subst (λ (v : View). IfOk c.judge_aged.result (λ found. AreJobsOf v c.args.start (length v.blocks) found.jobs.items))
    c.in_ok-ages.ensures.view
    (subst (λ (s : Start). IfOk c.judge_aged.result (λ found. AreJobsOf c.in_ok-ages.ages.view s
    (length c.in_ok-ages.ages.view.blocks) found.jobs.items)) c.in_ok-ages.ensures.start c.judge_aged.ensures.jobs)
