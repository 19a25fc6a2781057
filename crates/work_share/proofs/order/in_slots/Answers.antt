use Rattle.std.proofs.Common.{rules, ◌<◌, ℕ, List, sym, subst}
use Rattle.std.specs.Prelude.{Option}
use Rattle.work_share.specs.declared.station.Numbered.{Numbered}
use Rattle.work_share.proofs.Slots.{IsPartlyPut, put_none, put_one, all_put}
use Rattle.work_share.proofs.order.in_slots.Goals as goal

pub loop-entry-init : goal.loop-entry-init
loop-entry-init g c =
    put_none c.args.jobs c.args.results.items c.in_ok-slots.slots.items c.requires (search rules)
    c.in_ok-slots.ensures.none

pub put-requires : goal.put-requires
put-requires g c =
    subst (λ (n : ℕ). c.in-Some.entry.number < n) (search rules)
    (put_one c.args.jobs c.args.results.items c.loop-entry.results.items c.pop.new.self.items c.in-Some.entry
    c.loop-entry.slots.items (search rules) c.loop-entry.invariant).0

pub loop-entry-preserved : goal.loop-entry-preserved
loop-entry-preserved g c =
    subst
    (λ (slots : List (Option g.row.D.Denot)).
    IsPartlyPut c.args.jobs c.args.results.items c.pop.new.self.items slots) (sym c.put.ensures)
    (put_one c.args.jobs c.args.results.items c.loop-entry.results.items c.pop.new.self.items c.in-Some.entry
    c.loop-entry.slots.items (search rules) c.loop-entry.invariant).1

pub returns-clause-each : goal.returns-clause-each
returns-clause-each g c i lt =
    all_put c.args.jobs c.args.results.items c.loop-entry.slots.items
    (subst
    (λ (left : List (Numbered g.row.D.Denot)).
    IsPartlyPut c.args.jobs c.args.results.items left c.loop-entry.slots.items) (search rules)
    c.loop-entry.invariant) i lt
