use Rattle.flow_graph.proofs.next.next_by_pair.Goals as goal

pub returns-in-Some : goal.returns-in-Some
returns-in-Some c = λ code top. rw c.in-Some.is c.call_of.ensures

pub returns-in-None : goal.returns-in-None
returns-in-None c = λ code top. rw c.in-None.is c.jump_to.ensures
