use Rattle.std.proofs.Common.{rules, ◌≡◌, ◌<◌, ◌+◌, ◌++◌, ◌∷◌, List, [], subst, sym, ap, ◌∙◌, arith}
use Rattle.std.specs.Prelude.{All}
use Rattle.std.proofs.lemmas.List.Elements.{All-push, All-weaker}
use Rattle.work_share.specs.declared.station.Numbered.{Numbered}
use Rattle.work_share.specs.Seat.{drawn_of, jobs_of}
use Rattle.work_share.specs.Station.{numbered, numbers_of, SameBelow}
use Rattle.work_share.proofs.Drawn.{some_drawn, none_drawn, same_push, next_after, next_after-le, next_after-push}
use Rattle.work_share.proofs.work.run_jobs.Goals as goal

pub loop-number-smaller : goal.loop-number-smaller
loop-number-smaller g c =
    let e = c.in-Some.ensures in
    let n = c.in-Some.number in
    let drew =
    some_drawn (jobs_of c.args.tickets.now) c.loop-number.station.seat c.draw.new.seat n e.after_end e.drawn
    e.greater e.answer in
    let before = next_after-le n (drawn_of c.loop-number.station.seat) drew.2 in
    let after : next_after (drawn_of c.draw.new.seat) ≡ n + 1 =
    ap next_after drew.1 ∙ next_after-push n (drawn_of c.loop-number.station.seat) in
    let inside = drew.0 in omega arith

pub loop-number-preserved : goal.loop-number-preserved
loop-number-preserved g c =
    let inv = c.loop-number.invariant in
    let e = c.in-Some.ensures in
    let n = c.in-Some.number in
    let jobs = jobs_of c.args.tickets.now in
    let drew = some_drawn jobs c.loop-number.station.seat c.draw.new.seat n e.after_end e.drawn e.greater e.answer in
    let old : List (Numbered g.row.J-Done.Denot) = c.loop-number.station.results.items in
    let entry : Numbered g.row.J-Done.Denot = numbered n c.in_ok-done.done in
    let new : List (Numbered g.row.J-Done.Denot) = c.push.new.self.items in
    let grown : old ++ entry ∷ [] ≡ new = search rules in
    record {
      ours = search rules;
      spare = search rules;
      fit = c.run.ensures.fit;
      onward =
          g.met.J.Job.further c.args.job.now c.args.station.now.state c.loop-number.station.state c.run.new.state
          inv.onward c.run.ensures.onward;
      drawn =
          subst
          (λ (all : List (Numbered g.row.J-Done.Denot)).
          SameBelow jobs (numbers_of all) (drawn_of c.draw.new.seat)) grown
          (same_push jobs old entry (drawn_of c.loop-number.station.seat) (drawn_of c.draw.new.seat) drew.1
          inv.drawn);
      small =
          subst (λ (all : List (Numbered g.row.J-Done.Denot)). All (λ entry. entry.number < jobs) all) grown
          (All-push (λ (entry : Numbered g.row.J-Done.Denot). entry.number < jobs) old entry inv.small drew.0);
      right =
          subst
          (λ (all : List (Numbered g.row.J-Done.Denot)).
          All (λ entry. g.J.Job.is_right c.args.job.now entry.number c.run.new.state entry.done) all) grown
          (All-push
          (λ (entry : Numbered g.row.J-Done.Denot).
          g.J.Job.is_right c.args.job.now entry.number c.run.new.state entry.done) old entry
          (All-weaker
          (λ (entry : Numbered g.row.J-Done.Denot).
          g.J.Job.is_right c.args.job.now entry.number c.loop-number.station.state entry.done)
          (λ (entry : Numbered g.row.J-Done.Denot).
          g.J.Job.is_right c.args.job.now entry.number c.run.new.state entry.done)
          (λ entry right.
          g.met.J.Job.lasts c.args.job.now entry.number c.loop-number.station.state c.run.new.state
          entry.done right c.run.ensures.onward) old inv.right) c.in_ok-done.ensures.right);
    }

pub returns-clause-finished : goal.returns-clause-finished
returns-clause-finished g c =
    let inv = c.loop-number.invariant in
    let e = c.draw.ensures in
    let drew =
    none_drawn (jobs_of c.args.tickets.now) c.loop-number.station.seat c.draw.new.seat
    (λ ended. (e.after_end ended).1) e.drawn (λ going. sym c.in_default.is ∙ e.answer going) e.ended in
    record { ended = drew.0; drawn = λ x lt. inv.drawn x lt ∙ drew.1 x lt; small = inv.small; right = inv.right }
