use Rattle.set_list.proofs.SetList.insert.Goals as goal

pub returns-clause-members : goal.returns-clause-members
returns-clause-members c = rw (← c.in_ok-set.ensures.value) c.in_ok-add.ensures.members
