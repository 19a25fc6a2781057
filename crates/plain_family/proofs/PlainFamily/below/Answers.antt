use Rattle.std.proofs.Common.{◌<◌, length, arith}
use Rattle.plain_family.proofs.Walk.{Keeps-more, Keeps-same, Keeps-all}
use Rattle.plain_family.proofs.PlainFamily.below.Goals as goal
use Rattle.plain_family.proofs.PlainFamily.below.Goals.{then-len-k+in_ok-try_clone+in_ok-add, else-len-k}

pub loop-set-preserved : goal.loop-set-preserved
loop-set-preserved c = elim c.if-len-k.branch [
  | then-len-k+in_ok-try_clone+in_ok-add w ↦
      let few : length c.set-item.result < c.args.k = omega (arith, c.len.ensures, w.if-len-k.true) in
      let step = rw w.in_ok-try_clone.ensures.value at w.in_ok-add.ensures.sets in
      record {
        sets = rw w.family-is (Keeps-more (λ s. length s < c.args.k) c.sets-sets.result.now c.loop-set.set-index
            c.loop-set.family w.add.new.self c.set-item.result c.loop-set-test.true c.set-item.is
            c.loop-set.invariant.sets few step);
        order = rw w.family-is w.in_ok-add.ensures.order;
      }
  | else-len-k w ↦ record {
    sets = rw w.family-is (Keeps-same (λ s. length s < c.args.k) c.sets-sets.result.now c.loop-set.set-index
        c.loop-set.family c.set-item.result c.loop-set-test.true c.set-item.is c.loop-set.invariant.sets
        (λ few. omega (arith, few, c.len.ensures, w.if-len-k.false)));
    order = rw w.family-is c.loop-set.invariant.order;
  }
]

pub returns-clause-sets : goal.returns-clause-sets
returns-clause-sets c =
    rw (← c.sets-sets.ensures.value) (Keeps-all (λ s. length s < c.args.k) c.sets-sets.result.now c.loop-set.set-index
    c.loop-set.family c.loop-set-test.false c.loop-set.invariant.sets)
