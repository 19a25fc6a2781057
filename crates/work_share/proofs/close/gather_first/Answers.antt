use Rattle.std.proofs.Common.{refl, rules}
use Rattle.work_share.specs.Seat.{jobs_of}
use Rattle.work_share.proofs.Stations.{gathered_first}
use Rattle.work_share.proofs.close.gather_first.Goals as goal

pub returns-clause-gathered : goal.returns-clause-gathered
returns-clause-gathered g c going =
    gathered_first (g.J.Job.is_right c.args.job.now) (jobs_of c.args.tickets.now) c.args.station c.add.new.row.items _
    refl refl (search rules) (c.requires.over.finished going)
