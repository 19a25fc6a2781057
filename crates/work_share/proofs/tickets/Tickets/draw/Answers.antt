use Rattle.std.proofs.Common.{rules, ◌+◌}
use Rattle.work_share.proofs.Keeps.{draws, each_after}
use Rattle.work_share.proofs.tickets.Tickets.draw.Goals as goal

pub fetch_add-found-requires : goal.fetch_add-found-requires
fetch_add-found-requires c =
    (search rules, search rules, draws _ _ _ _ (search rules) (search rules) (search rules) c.args.seat.now.weighs)

pub returns-then-seat-2-clause-each : goal.returns-then-seat-2-clause-each
returns-then-seat-2-clause-each c going whole =
    let both =
    each_after c.args.self.now.jobs c.fetch_add-found.result c.args.seat.now.seat.me.0
    c.fetch_add-found.new.seat.me.0 (search rules) c.requires.1 (search rules) whole in
    record { counter = c.fetch_add-found.result + 1; each = both.0; past = both.1 }

pub returns-else-seat-2-clause-each : goal.returns-else-seat-2-clause-each
returns-else-seat-2-clause-each c going whole =
    let both =
    each_after c.args.self.now.jobs c.fetch_add-found.result c.args.seat.now.seat.me.0
    c.fetch_add-found.new.seat.me.0 (search rules) c.requires.1 (search rules) whole in
    record { counter = c.fetch_add-found.result + 1; each = both.0; past = both.1 }
