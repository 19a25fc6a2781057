use Rattle.std.proofs.Common.{◌≡◌, ◌<◌, ◌≤◌, ◌+◌, ◌++◌, []}
use Rattle.std.specs.Prelude.{All, length, vec_len, vec_capacity}
use Rattle.std.specs.List.{range_with_len}
use Rattle.work_share.specs.Seat.{drawn_of, spare_of, IsSeatOf}
use Rattle.work_share.specs.Station.{IsReady, states_of, weights_of, workers_of}
use Rattle.work_share.proofs.open.open.Given as goal

abbrev pub invariant-loop-states : goal.invariant-loop-states
invariant-loop-states g l = record {
  ours : IsSeatOf l.tickets l.seat;
  drawn : drawn_of l.seat ≡ [];
  weights : weights_of l.stations.items + spare_of l.seat ≡ spare_of l.initial.seat;
  count : vec_len l.states + vec_len l.stations ≡ vec_len l.initial.states;
  some : 0 < vec_len l.states;
  enough : vec_len l.states ≤ spare_of l.seat + 1;
  room : vec_len l.initial.states ≤ vec_capacity l.stations;
  back : vec_len l.initial.states ≤ vec_capacity l.states;
  states : l.states.items ++ states_of l.stations.items ≡ l.initial.states.items;
  workers : workers_of l.stations.items ≡ range_with_len (vec_len l.states) (length l.stations.items);
  fit : All (g.J.Job.is_fit l.job) l.states.items;
  ready : All (IsReady (g.J.Job.is_job l.job) (g.J.Job.is_fit l.job) l.tickets) l.stations.items;
}

abbrev pub decreases-loop-states : goal.decreases-loop-states
decreases-loop-states g l = vec_len l.states
