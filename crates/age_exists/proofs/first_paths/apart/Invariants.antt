use Rattle.age_exists.specs.FirstSteps.{AreApart}
use Rattle.age_exists.specs.Seen.{entries_seen}
use Rattle.age_exists.proofs.first_paths.apart.Given as goal

abbrev pub invariant-loop-node : goal.invariant-loop-node
invariant-loop-node l = AreApart l.node (entries_seen l.steps.items)
