use Rattle.std.proofs.Common.{rules}
use Rattle.work_share.specs.Seat.{jobs_of}
use Rattle.work_share.proofs.Stations.{gathered_more}
use Rattle.work_share.proofs.close.gather.Goals as goal

pub returns-clause-gathered : goal.returns-clause-gathered
returns-clause-gathered g c going all =
    gathered_more (g.J.Job.is_right c.args.job.now) (jobs_of c.args.tickets.now) c.args.station
    c.args.states.now.items c.add.new.row.items c.args.gathered.now _ c.join.ensures.drawn c.join.ensures.ended
    (search rules) c.add.ensures.items (c.requires.over.finished (search rules)) all
