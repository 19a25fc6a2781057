use Rattle.std.proofs.Common.{ℕ, List, sym, subst}
use Rattle.node_verdicts.specs.Found.{AreJobsWithin}
use Rattle.node_verdicts.proofs.Jobs.{jobs_rising}
use Rattle.node_verdicts.proofs.verdicts.settle.Given.{Over}
use Rattle.node_verdicts.proofs.verdicts.settle.Goals as goal
use Rattle.node_verdicts.proofs.verdicts.settle.Goals.{In_ok-jobs}

-- the rising jobs are those of the sets
jobs_here : (g : Over) (c : In_ok-jobs g)
    → AreJobsWithin c.args.blocks.now.small c.args.geometry.now c.args.start 0 c.args.geometry.now.sets
    c.in_ok-jobs.jobs.items
jobs_here g c =
    jobs_rising c.args.blocks.now.small c.args.geometry.now c.args.start 0 c.args.geometry.now.sets
    c.in_ok-verdicts.field-0.jobs.items c.in_ok-jobs.jobs.items c.in_ok-verdicts.ensures.jobs c.in_ok-jobs.ensures.same
    c.in_ok-jobs.ensures.most

pub search-requires-clause-jobs : goal.search-requires-clause-jobs
search-requires-clause-jobs g c κs within =
    subst (λ (jobs : List ℕ). AreJobsWithin c.args.blocks.now.small c.args.geometry.now c.args.start 0
    c.args.geometry.now.sets jobs) (sym c.deref-2.ensures.value)
    (jobs_here g (goal.at.search-requires-clause-jobs g c).In_ok-jobs)

pub returns-clause-jobs : goal.returns-clause-jobs
returns-clause-jobs g c = jobs_here g (goal.at.returns-clause-jobs g c).In_ok-jobs
