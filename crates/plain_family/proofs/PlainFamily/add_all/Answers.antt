use Rattle.plain_family.proofs.Walk.{Adds-more, Adds-all}
use Rattle.plain_family.proofs.PlainFamily.add_all.Goals as goal

pub loop-set-preserved : goal.loop-set-preserved
loop-set-preserved c =
    let step = rw c.in_ok-try_clone.ensures.value at c.in_ok-add.ensures.sets in
    record {
      sets = Adds-more c.args.self.now c.args.sets.now c.loop-set.set-index c.loop-set.self c.add.new.self
          c.set-item.result c.loop-set-test.true c.set-item.is c.loop-set.invariant.sets step;
      order = c.in_ok-add.ensures.order;
    }

pub returns-clause-sets : goal.returns-clause-sets
returns-clause-sets c = Adds-all c.args.self.now c.args.sets.now c.loop-set.set-index c.loop-set.self
    c.loop-set-test.false c.loop-set.invariant.sets
