use Rattle.std.proofs.Common.{rules}
use Rattle.work_share.proofs.Keeps.{joins, looks}
use Rattle.work_share.proofs.tickets.Tickets.join.Goals as goal

pub join_seat-requires : goal.join_seat-requires
join_seat-requires c =
    (search rules, search rules, search rules, search rules, joins _ _ _ _ _ c.args.seat.now.weighs)

pub load-requires : goal.load-requires
load-requires c = (search rules, search rules, looks _ _ _ _ (search rules))
