use Rattle.std.proofs.Common.{◌≡◌, length}
use Rattle.std.specs.Prelude.{All, None}
use Rattle.work_share.proofs.order.empty_slots.Given as goal

abbrev pub invariant-loop : goal.invariant-loop
invariant-loop g l = (length l.slots.items ≡ l.counter) × All (λ slot. slot ≡ None) l.slots.items
