use Rattle.std.proofs.Common.{◌≡◌, take}
use Rattle.age_exists.specs.Equations.{own_ages}
use Rattle.age_exists.proofs.one_block.own_ages.Given as goal

abbrev pub invariant-loop-node : goal.invariant-loop-node
invariant-loop-node l = l.own.items ≡ take l.node (own_ages l.view.fetches l.ages)
