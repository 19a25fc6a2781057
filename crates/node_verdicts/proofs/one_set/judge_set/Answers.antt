use Rattle.std.proofs.Common.{ℕ, subst}
use Rattle.cache_spec.specs.Blocks.{HaveFew}
use Rattle.path_model.specs.Graph.{addresses_of}
use Rattle.node_verdicts.proofs.Counted.{few_viewed}
use Rattle.node_verdicts.proofs.Viewed.{judged_viewed, jobs_viewed}
use Rattle.node_verdicts.proofs.one_set.judge_set.Goals as goal

pub returns-clause-judged : goal.returns-clause-judged
returns-clause-judged c =
    judged_viewed c.args.graph.now c.args.geometry.now c.args.set c.args.start c.args.kept c.in_ok-view.view
    c.in_ok-found.found.judged.items c.in_ok-view.ensures.view c.in_ok-view.ensures.nodes c.in_ok-view.ensures.geometry
    c.in_ok-view.ensures.set c.in_ok-found.ensures.judged

pub returns-clause-few : goal.returns-clause-few
returns-clause-few c =
    subst (λ (set : ℕ). HaveFew (addresses_of c.args.graph.now) c.args.geometry.now set) c.in_ok-view.ensures.set
    (few_viewed c.args.graph.now c.args.geometry.now c.in_ok-view.view c.in_ok-view.ensures.view
    c.in_ok-view.ensures.nodes c.in_ok-view.ensures.geometry)

pub returns-clause-jobs : goal.returns-clause-jobs
returns-clause-jobs c =
    jobs_viewed c.args.graph.now c.args.geometry.now c.args.set c.args.start c.in_ok-view.view
    c.in_ok-found.found.jobs.items c.in_ok-view.ensures.view c.in_ok-view.ensures.nodes c.in_ok-view.ensures.geometry
    c.in_ok-view.ensures.set c.in_ok-found.ensures.jobs
