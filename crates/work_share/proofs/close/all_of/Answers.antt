use Rattle.std.proofs.Common.{rules}
use Rattle.work_share.specs.Seat.{drawn_of, jobs_of}
use Rattle.work_share.proofs.Stations.{all_gathered}
use Rattle.work_share.proofs.close.all_of.Goals as goal

pub returns-clause-numbers : goal.returns-clause-numbers
returns-clause-numbers g c =
    let each = c.join.ensures.each (search rules) in
    let all = c.requires.gathered (search rules) in
    all_gathered (jobs_of c.args.tickets.now) each.counter (drawn_of c.args.gathered.seat) (drawn_of c.join.new.seat)
    c.args.gathered.results.items all.drawn all.small (search rules) each.each (each.past (search rules))
