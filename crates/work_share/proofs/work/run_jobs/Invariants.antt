use Rattle.std.proofs.Common.{◌≡◌, ◌<◌, ◌-◌}
use Rattle.std.specs.Prelude.{All}
use Rattle.work_share.specs.Seat.{drawn_of, jobs_of, spare_of, IsSeatOf}
use Rattle.work_share.specs.Station.{numbers_of, SameBelow}
use Rattle.work_share.proofs.Drawn.{next_after}
use Rattle.work_share.proofs.work.run_jobs.Given as goal

abbrev pub invariant-loop-number : goal.invariant-loop-number
invariant-loop-number g l = record {
  ours : IsSeatOf l.tickets l.station.seat;
  spare : spare_of l.station.seat ≡ spare_of l.initial.station.seat;
  fit : g.J.Job.is_fit l.job l.station.state;
  onward : g.J.Job.goes_on l.job l.initial.station.state l.station.state;
  drawn : SameBelow (jobs_of l.tickets) (numbers_of l.station.results.items) (drawn_of l.station.seat);
  small : All (λ entry. entry.number < jobs_of l.tickets) l.station.results.items;
  right : All (λ entry. g.J.Job.is_right l.job entry.number l.station.state entry.done) l.station.results.items;
}

abbrev pub decreases-loop-number : goal.decreases-loop-number
decreases-loop-number g l = jobs_of l.tickets - next_after (drawn_of l.station.seat)
