use Rattle.std.proofs.Common.{rules, ◌≡◌, List, sym, ap, ◌∙◌, subst, length}
use Rattle.std.specs.List.{AllZip}
use Rattle.work_share.specs.declared.station.Station.{Station}
use Rattle.work_share.specs.Station.{states_of, weights_of}
use Rattle.work_share.proofs.Stations.{worked_each, restored}
use Rattle.work_share.proofs.work.work_each.Goals as goal

pub returns-clause-onward : goal.returns-clause-onward
returns-clause-onward g c =
    let old : List (Station g.row.J-State.Denot g.row.J-Done.Denot) = c.as_mut_slice.result.now in
    let new : List (Station g.row.J-State.Denot g.row.J-Done.Denot) = c.work_at_all.new.stations in
    let same : length new ≡ length old = search rules in
    let all =
    worked_each (g.J.Job.is_fit c.args.job.now) (g.J.Job.goes_on c.args.job.now) (g.J.Job.is_right c.args.job.now)
    c.args.tickets.now old new same c.work_at_all.ensures in
    let onward : AllZip (g.J.Job.goes_on c.args.job.now) (states_of c.args.stations.now.items) (states_of new) =
    subst
    (λ (all : List (Station g.row.J-State.Denot g.row.J-Done.Denot)).
    AllZip (g.J.Job.goes_on c.args.job.now) (states_of all) (states_of new)) c.as_mut_slice.ensures.value
    all.1 in
    subst
    (λ (all : List (Station g.row.J-State.Denot g.row.J-Done.Denot)).
    AllZip (g.J.Job.goes_on c.args.job.now) (states_of c.args.stations.now.items) (states_of all))
    (sym (restored c.args.stations.now.len new _ (search rules))) onward

pub returns-clause-weights : goal.returns-clause-weights
returns-clause-weights g c =
    let old : List (Station g.row.J-State.Denot g.row.J-Done.Denot) = c.as_mut_slice.result.now in
    let new : List (Station g.row.J-State.Denot g.row.J-Done.Denot) = c.work_at_all.new.stations in
    let same : length new ≡ length old = search rules in
    let all =
    worked_each (g.J.Job.is_fit c.args.job.now) (g.J.Job.goes_on c.args.job.now) (g.J.Job.is_right c.args.job.now)
    c.args.tickets.now old new same c.work_at_all.ensures in
    ap weights_of (restored c.args.stations.now.len new _ (search rules)) ∙ all.2
    ∙ ap weights_of c.as_mut_slice.ensures.value
