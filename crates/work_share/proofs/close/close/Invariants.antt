use Rattle.std.proofs.Common.{◌≡◌, ◌≤◌, ◌+◌, ◌++◌, false}
use Rattle.std.specs.Prelude.{All, vec_len, vec_capacity}
use Rattle.work_share.specs.Seat.{jobs_of, spare_of, IsSeatOf}
use Rattle.work_share.specs.Station.{IsOver, HasGathered, states_of, weights_of}
use Rattle.work_share.proofs.close.close.Given as goal

abbrev pub invariant-loop-station : goal.invariant-loop-station
invariant-loop-station g l = record {
  ours : IsSeatOf l.tickets l.gathered.seat;
  weights : weights_of l.stations.items + spare_of l.gathered.seat + 1 ≡ 64;
  count : vec_len l.states + vec_len l.stations ≡ vec_len l.fn.stations;
  room : vec_len l.states + vec_len l.stations ≤ vec_capacity l.states;
  over : All (IsOver (g.J.Job.is_fit l.job) (g.J.Job.is_right l.job) l.tickets) l.stations.items;
  states : l.states.items ++ states_of l.stations.items ≡ states_of l.fn.stations.items;
  gathered :
      l.gathered.failed ≡ false → HasGathered (g.J.Job.is_right l.job) (jobs_of l.tickets) l.states.items l.gathered;
}

abbrev pub decreases-loop-station : goal.decreases-loop-station
decreases-loop-station g l = goal.left-loop-station g l
