use Rattle.set_list.proofs.Found.{AreFound}
use Rattle.set_list.proofs.count_found.Given as goal

abbrev pub invariant-loop-item : goal.invariant-loop-item
invariant-loop-item l = AreFound l.wanted l.items l.found l.item-index
