use Rattle.node_verdicts.proofs.Parted.{sets_found}
use Rattle.node_verdicts.proofs.set_parts.SetsJobJob.run.Goals as goal

pub found-requires : goal.found-requires
found-requires c =
    sets_found c.args.self.now c.args.number c.small.result.now c.low-low.result c.low-high.result c.in-Ok.sets
    c.small.ensures.same c.low-low.ensures c.low-high.ensures c.in-Ok.ensures.judged c.in-Ok.ensures.jobs
    c.in-Ok.ensures.few c.in-Ok.ensures.graph
