use Rattle.age_exists.specs.FirstSteps.{AreFound}
use Rattle.age_exists.specs.Seen.{entries_seen}
use Rattle.age_exists.proofs.first_paths.note_all.Given as goal

abbrev pub invariant-loop-index : goal.invariant-loop-index
invariant-loop-index l = AreFound l.nodes l.index (entries_seen l.steps)
