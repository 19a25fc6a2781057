use Rattle.set_list.specs.Rising.{Contains-insert}
use Rattle.plain_family.proofs.Order.{IsFamily-insert}
use Rattle.plain_family.proofs.PlainFamily.add.Goals as goal

pub invariant_of-self-2 : goal.invariant_of-self-2
invariant_of-self-2 c =
    let place = rw c.deref.ensures.value at c.in-Err.ensures in
    rw c.in_ok-insert.ensures.items (IsFamily-insert c.self.inside.sets.items c.in-Err.place c.args.set c.self.invariant
    c.requires place)

pub returns-clause-sets : goal.returns-clause-sets
returns-clause-sets c = λ s. rw (c.in_ok-insert.ensures.items, ← c.self.view_is) (Contains-insert _ _ _ s)

pub returns-clause-order : goal.returns-clause-order
returns-clause-order c = invariant_of-self-2 c
