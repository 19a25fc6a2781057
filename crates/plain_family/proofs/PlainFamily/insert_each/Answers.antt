use Rattle.plain_family.specs.Family.{IsWith}
use Rattle.plain_family.proofs.Walk.{Grows-more, Grows-all}
use Rattle.plain_family.proofs.PlainFamily.insert_each.Goals as goal

pub loop-set-preserved : goal.loop-set-preserved
loop-set-preserved c =
    let added : IsWith c.args.x c.set-item.result c.in_ok-insert.field-0 =
    record { rising = c.in_ok-insert.ensures.rising; members = c.in_ok-insert.ensures.members } in
    record {
      sets = Grows-more c.args.x c.sets-sets.result.now c.loop-set.set-index c.loop-set.family c.add.new.self
          c.set-item.result c.in_ok-insert.field-0 c.loop-set-test.true c.set-item.is c.loop-set.invariant.sets added
          c.in_ok-add.ensures.sets;
      order = c.in_ok-add.ensures.order;
    }

pub returns-clause-sets : goal.returns-clause-sets
returns-clause-sets c =
    rw (← c.sets-sets.ensures.value) (Grows-all c.args.x c.sets-sets.result.now c.loop-set.set-index c.loop-set.family
    c.loop-set-test.false c.loop-set.invariant.sets)
