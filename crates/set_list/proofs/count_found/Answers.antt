use Rattle.std.proofs.Common.{arith}
use Rattle.set_list.proofs.Found.{found_more, found_same, missing_from_found}
use Rattle.set_list.proofs.count_found.Goals as goal
use Rattle.set_list.proofs.count_found.Goals.{then-found-wanted+then-wanted-found, else-found-wanted, else-found-wanted-via-then-found-wanted+else-wanted-found, else-found-wanted-via-else-found-wanted}

pub loop-item-preserved : goal.loop-item-preserved
loop-item-preserved c = elim c.if-found-wanted.branch [
  | then-found-wanted+then-wanted-found w ↦
      rw w.found-is (found_more _ _ _ _ c.requires.wanted c.requires.items c.loop-item.invariant w.if-found-wanted.true
      c.loop-item-test.true w.if-wanted-found.true)
  | else-found-wanted w ↦
      rw w.found-is (found_same _ _ _ _ c.loop-item.invariant (λ left same. elim w.else-found-wanted.branch [
        | else-found-wanted-via-then-found-wanted+else-wanted-found v ↦ v.if-wanted-found.false same
        | else-found-wanted-via-else-found-wanted v ↦ omega arith
      ]))
]

pub returns-clause-missing : goal.returns-clause-missing
returns-clause-missing c = missing_from_found _ _ _ _ c.loop-item.invariant c.loop-item-test.false
