use Rattle.plain_family.proofs.Walk.{Contains-both}
use Rattle.plain_family.proofs.PlainFamily.union.Goals as goal

pub returns-clause-sets : goal.returns-clause-sets
returns-clause-sets c =
    let both = Contains-both c.without_sets-family.result c.sets.result.now c.sets-2.result.now c.add_all.new.self
    c.add_all-2.new.self c.without_sets-family.ensures.sets c.in_ok-add_all.ensures.sets
    c.in_ok-add_all-2.ensures.sets in
    rw (← c.sets.ensures.value, ← c.sets-2.ensures.value) both
