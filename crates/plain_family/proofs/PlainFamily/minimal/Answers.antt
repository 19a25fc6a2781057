use Rattle.std.proofs.Common.{true≢false, sym, ◌∙◌}
use Rattle.plain_family.specs.Family.{IsMinimal}
use Rattle.plain_family.proofs.Walk.{Keeps-more, Keeps-same, Keeps-all}
use Rattle.plain_family.proofs.PlainFamily.minimal.Goals as goal
use Rattle.plain_family.proofs.PlainFamily.minimal.Goals.{then-is_minimal+in_ok-try_clone+in_ok-add, else-is_minimal}

pub loop-set-preserved : goal.loop-set-preserved
loop-set-preserved c = elim c.if-is_minimal.branch [
  | then-is_minimal+in_ok-try_clone+in_ok-add w ↦
      let step = rw w.in_ok-try_clone.ensures.value at w.in_ok-add.ensures.sets in
      record {
        sets = rw w.family-is (Keeps-more (IsMinimal c.sets-sets.result.now) c.sets-sets.result.now c.loop-set.set-index
            c.loop-set.family w.add.new.self c.set-item.result c.loop-set-test.true c.set-item.is
            c.loop-set.invariant.sets (c.is_minimal.ensures.0 w.if-is_minimal.true) step);
        order = rw w.family-is w.in_ok-add.ensures.order;
      }
  | else-is_minimal w ↦ record {
    sets = rw w.family-is (Keeps-same (IsMinimal c.sets-sets.result.now) c.sets-sets.result.now c.loop-set.set-index
        c.loop-set.family c.set-item.result c.loop-set-test.true c.set-item.is c.loop-set.invariant.sets
        (λ minimal. true≢false (sym (c.is_minimal.ensures.1 minimal) ∙ w.if-is_minimal.false)));
    order = rw w.family-is c.loop-set.invariant.order;
  }
]

pub returns-clause-sets : goal.returns-clause-sets
returns-clause-sets c =
    rw (← c.sets-sets.ensures.value) (Keeps-all (IsMinimal c.sets-sets.result.now) c.sets-sets.result.now
    c.loop-set.set-index c.loop-set.family c.loop-set-test.false c.loop-set.invariant.sets)
