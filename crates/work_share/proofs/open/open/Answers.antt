use Rattle.std.proofs.Common.{rules, ◌≡◌, ◌+◌, ◌++◌, ◌∷◌, [], List, sym, ap, ◌∙◌, subst, arith}
use Rattle.std.specs.Prelude.{All, length, vec_len}
use Rattle.std.specs.List.{range_with_len}
use Rattle.std.proofs.lemmas.List.Elements.{All-push}
use Rattle.work_share.specs.declared.station.Station.{Station}
use Rattle.work_share.specs.declared.tickets.TicketSeat.{TicketSeat}
use Rattle.work_share.specs.Seat.{drawn_of, spare_of, IsSeatOf}
use Rattle.work_share.specs.Station.{IsReady, states_of, weights_of, workers_of}
use Rattle.work_share.proofs.Stations.{all_but_last, last_too, states_moved, weights_of-push, workers_moved}
use Rattle.work_share.proofs.open.open.Goals as goal

pub loop-states-preserved : goal.loop-states-preserved
loop-states-preserved g c =
    let inv = c.loop-states.invariant in
    let new = c.station.result in
    let IsFit = g.J.Job.is_fit c.args.job.now in
    let Ready : Station g.row.J-State.Denot g.row.J-Done.Denot → Type 0 =
    IsReady (g.J.Job.is_job c.args.job.now) IsFit c.args.tickets.now in
    let old : List (Station g.row.J-State.Denot g.row.J-Done.Denot) = c.loop-states.stations.items in
    let rest : List g.row.J-State.Denot = c.pop.new.self.items in
    let all : All IsFit (rest ++ c.in-Some.state ∷ []) =
    subst (λ (l : List g.row.J-State.Denot). All IsFit l) (search rules) inv.fit in
    let a : weights_of c.add.new.row.items ≡ weights_of old + (spare_of new.seat + 1) =
    ap weights_of c.add.ensures.items ∙ weights_of-push old new in
    let b : spare_of new.seat ≡ 0 = ap spare_of c.station.ensures.seat ∙ c.split-beside.ensures.new_spare in
    let s = c.split-beside.ensures.spare in
    let t = inv.weights in
    record {
      ours = search rules;
      drawn = search rules;
      weights = omega arith;
      count = search rules;
      some = search rules;
      enough = search rules;
      room = search rules;
      back = search rules;
      states =
          ap (λ (l : List (Station g.row.J-State.Denot g.row.J-Done.Denot)). rest ++ states_of l) c.add.ensures.items
          ∙ states_moved c.loop-states.states.items rest old new (search rules) ∙ inv.states;
      workers =
          subst (λ (l : List (Station g.row.J-State.Denot g.row.J-Done.Denot)).
          workers_of l ≡ range_with_len (vec_len c.pop.new.self) (length l)) (sym c.add.ensures.items)
          (workers_moved (vec_len c.pop.new.self) (vec_len c.loop-states.states) old new (search rules) (search rules)
          inv.workers);
      fit = all_but_last IsFit rest c.in-Some.state all;
      ready =
          subst (λ (l : List (Station g.row.J-State.Denot g.row.J-Done.Denot)). All Ready l) (sym c.add.ensures.items)
          (All-push Ready old new inv.ready
          (record {
            ours =
                subst (λ (seat : TicketSeat). IsSeatOf c.args.tickets.now seat) (sym c.station.ensures.seat)
                c.split-beside.ensures.new_ours;
            jobs = c.requires.jobs;
            drawn = ap drawn_of c.station.ensures.seat ∙ c.split-beside.ensures.new_drawn;
            fit = subst IsFit (sym c.station.ensures.state) (last_too IsFit rest c.in-Some.state all);
            results = c.station.ensures.results;
            going = c.station.ensures.going;
          }));
    }

pub returns-clause-states : goal.returns-clause-states
returns-clause-states g c =
    ap states_of c.add-2.ensures.items
    ∙ (let none : c.pop-2.new.self.items ≡ [] = search rules in
    ap (λ (l : List g.row.J-State.Denot). l ++ states_of (c.loop-states.stations.items ++ c.station-2.result ∷ []))
    (sym none))
    ∙ states_moved c.loop-states.states.items c.pop-2.new.self.items c.loop-states.stations.items c.station-2.result
    (search rules) ∙ c.loop-states.invariant.states

pub returns-clause-ready : goal.returns-clause-ready
returns-clause-ready g c =
    let inv = c.loop-states.invariant in
    let new = c.station-2.result in
    let IsFit = g.J.Job.is_fit c.args.job.now in
    let Ready : Station g.row.J-State.Denot g.row.J-Done.Denot → Type 0 =
    IsReady (g.J.Job.is_job c.args.job.now) IsFit c.args.tickets.now in
    let all : All IsFit (c.pop-2.new.self.items ++ c.in-Some-pop.state ∷ []) =
    subst (λ (l : List g.row.J-State.Denot). All IsFit l) (search rules) inv.fit in
    subst (λ (l : List (Station g.row.J-State.Denot g.row.J-Done.Denot)). All Ready l) (sym c.add-2.ensures.items)
    (All-push Ready c.loop-states.stations.items new inv.ready
    (record {
      ours =
          subst (λ (seat : TicketSeat). IsSeatOf c.args.tickets.now seat) (sym c.station-2.ensures.seat)
          inv.ours;
      jobs = c.requires.jobs;
      drawn = ap drawn_of c.station-2.ensures.seat ∙ inv.drawn;
      fit =
          subst IsFit (sym c.station-2.ensures.state)
          (last_too IsFit c.pop-2.new.self.items c.in-Some-pop.state all);
      results = c.station-2.ensures.results;
      going = c.station-2.ensures.going;
    }))

pub returns-clause-workers : goal.returns-clause-workers
returns-clause-workers g c =
    subst (λ (l : List (Station g.row.J-State.Denot g.row.J-Done.Denot)). workers_of l ≡ range_with_len 0 (length l))
    (sym c.add-2.ensures.items)
    (workers_moved 0 (vec_len c.loop-states.states) c.loop-states.stations.items c.station-2.result (search rules)
    (search rules) c.loop-states.invariant.workers)
