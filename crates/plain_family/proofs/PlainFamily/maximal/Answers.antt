use Rattle.std.proofs.Common.{true≢false, sym, ◌∙◌}
use Rattle.plain_family.specs.Family.{IsMaximal}
use Rattle.plain_family.proofs.Walk.{Keeps-more, Keeps-same, Keeps-all}
use Rattle.plain_family.proofs.PlainFamily.maximal.Goals as goal
use Rattle.plain_family.proofs.PlainFamily.maximal.Goals.{then-is_maximal+in_ok-try_clone+in_ok-add, else-is_maximal}

pub loop-set-preserved : goal.loop-set-preserved
loop-set-preserved c = elim c.if-is_maximal.branch [
  | then-is_maximal+in_ok-try_clone+in_ok-add w ↦
      let step = rw w.in_ok-try_clone.ensures.value at w.in_ok-add.ensures.sets in
      record {
        sets = rw w.family-is (Keeps-more (IsMaximal c.sets-sets.result.now) c.sets-sets.result.now c.loop-set.set-index
            c.loop-set.family w.add.new.self c.set-item.result c.loop-set-test.true c.set-item.is
            c.loop-set.invariant.sets (c.is_maximal.ensures.0 w.if-is_maximal.true) step);
        order = rw w.family-is w.in_ok-add.ensures.order;
      }
  | else-is_maximal w ↦ record {
    sets = rw w.family-is (Keeps-same (IsMaximal c.sets-sets.result.now) c.sets-sets.result.now c.loop-set.set-index
        c.loop-set.family c.set-item.result c.loop-set-test.true c.set-item.is c.loop-set.invariant.sets
        (λ maximal. true≢false (sym (c.is_maximal.ensures.1 maximal) ∙ w.if-is_maximal.false)));
    order = rw w.family-is c.loop-set.invariant.order;
  }
]

pub returns-clause-sets : goal.returns-clause-sets
returns-clause-sets c =
    rw (← c.sets-sets.ensures.value) (Keeps-all (IsMaximal c.sets-sets.result.now) c.sets-sets.result.now
    c.loop-set.set-index c.loop-set.family c.loop-set-test.false c.loop-set.invariant.sets)
