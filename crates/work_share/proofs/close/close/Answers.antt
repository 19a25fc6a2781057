use Rattle.std.proofs.Common.{rules, ◌≡◌, ◌+◌, ◌++◌, ◌∷◌, [], List, sym, ap, ◌∙◌, subst, arith}
use Rattle.std.specs.Prelude.{All, IfOk}
use Rattle.work_share.specs.declared.station.Station.{Station}
use Rattle.work_share.specs.declared.tickets.TicketSeat.{TicketSeat}
use Rattle.work_share.specs.Seat.{spare_of, IsSeatOf}
use Rattle.work_share.specs.Station.{IsOver, IsRightBeside, states_of, weights_of}
use Rattle.work_share.proofs.Stations.{all_but_last, last_too, states_back, weights_of-push}
use Rattle.work_share.proofs.close.close.Goals as goal

pub loop-station-init : goal.loop-station-init
loop-station-init g c =
    let Over : Station g.row.J-State.Denot g.row.J-Done.Denot → Type 0 =
    IsOver (g.J.Job.is_fit c.args.job.now) (g.J.Job.is_right c.args.job.now) c.args.tickets.now in
    let first = c.in-Some.first in
    let rest : List (Station g.row.J-State.Denot g.row.J-Done.Denot) = c.pop.new.self.items in
    let whole : c.args.stations.items ≡ rest ++ first ∷ [] = search rules in
    let over : All Over (rest ++ first ∷ []) =
    subst (λ (l : List (Station g.row.J-State.Denot g.row.J-Done.Denot)). All Over l) whole c.requires.over in
    let mine = last_too Over rest first over in
    let e = c.gather_first-gathered.ensures in
    let a : weights_of c.args.stations.items ≡ weights_of rest + (spare_of first.seat + 1) =
    ap weights_of whole ∙ weights_of-push rest first in
    let b = ap spare_of e.seat in
    let t = c.requires.weights in
    record {
      ours = subst (λ (seat : TicketSeat). IsSeatOf c.args.tickets.now seat) (sym e.seat) mine.ours;
      weights = omega arith;
      count = search rules;
      room = search rules;
      over = all_but_last Over rest first over;
      states =
          ap (λ (l : List g.row.J-State.Denot). l ++ states_of rest) e.states
          ∙ states_back [] c.args.stations.items rest first whole;
      gathered = e.gathered;
    }

pub gather-requires-clause-over : goal.gather-requires-clause-over
gather-requires-clause-over g c κs within =
    let Over : Station g.row.J-State.Denot g.row.J-Done.Denot → Type 0 =
    IsOver (g.J.Job.is_fit c.args.job.now) (g.J.Job.is_right c.args.job.now) c.args.tickets.now in
    last_too Over c.pop-in-loop-station.new.self.items c.in-Some-pop.station
    (subst (λ (l : List (Station g.row.J-State.Denot g.row.J-Done.Denot)). All Over l) (search rules)
    c.loop-station.invariant.over)

pub loop-station-preserved : goal.loop-station-preserved
loop-station-preserved g c =
    let inv = c.loop-station.invariant in
    let Over : Station g.row.J-State.Denot g.row.J-Done.Denot → Type 0 =
    IsOver (g.J.Job.is_fit c.args.job.now) (g.J.Job.is_right c.args.job.now) c.args.tickets.now in
    let last = c.in-Some-pop.station in
    let rest : List (Station g.row.J-State.Denot g.row.J-Done.Denot) = c.pop-in-loop-station.new.self.items in
    let whole : c.loop-station.stations.items ≡ rest ++ last ∷ [] = c.in-Some-pop.ensures.items in
    let over : All Over (rest ++ last ∷ []) =
    subst (λ (l : List (Station g.row.J-State.Denot g.row.J-Done.Denot)). All Over l) whole inv.over in
    let e = c.gather.ensures in
    let a : weights_of c.loop-station.stations.items ≡ weights_of rest + (spare_of last.seat + 1) =
    ap weights_of whole ∙ weights_of-push rest last in
    let b = e.spare in
    let t = inv.weights in
    record {
      ours = e.seat;
      weights = omega arith;
      count = search rules;
      room = search rules;
      over = all_but_last Over rest last over;
      states =
          ap (λ (l : List g.row.J-State.Denot). l ++ states_of rest) e.states
          ∙ states_back c.loop-station.states.items c.loop-station.stations.items rest last whole ∙ inv.states;
      gathered = λ going. e.gathered going (inv.gathered (e.before going));
    }

pub returns-clause-right : goal.returns-clause-right
returns-clause-right g c =
    subst
    (λ (states : List g.row.J-State.Denot).
    IfOk c.all_of.result (λ all. All (IsRightBeside (g.J.Job.is_right c.args.job.now) states) all.items))
    c.deref.ensures.value c.all_of.ensures.right
