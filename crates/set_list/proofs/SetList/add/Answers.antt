use Rattle.set_list.specs.Rising.{Contains-insert}
use Rattle.set_list.proofs.Place.{rising-insert}
use Rattle.set_list.proofs.SetList.add.Goals as goal

pub invariant_of-self-2 : goal.invariant_of-self-2
invariant_of-self-2 c =
    let place = rw c.deref.ensures.value at c.in-Err.ensures.position in
    rw c.in_ok-insert.ensures.items (rising-insert _ _ _ c.self.invariant place)

pub returns-clause-rising : goal.returns-clause-rising
returns-clause-rising c = invariant_of-self-2 c

pub returns-clause-members : goal.returns-clause-members
returns-clause-members c = λ y. rw (c.in_ok-insert.ensures.items, ← c.self.view_is) (Contains-insert _ _ _ y)
