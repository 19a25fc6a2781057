use Rattle.std.proofs.Common.{rules}
use Rattle.work_share.proofs.Keeps.{splits}
use Rattle.work_share.proofs.tickets.Tickets.split.Goals as goal

pub split_seat-requires : goal.split_seat-requires
split_seat-requires c = (search rules, search rules, splits _ _ _ (search rules))
