use Rattle.std.proofs.Common.{◌-◌, length, reverse}
use Rattle.path_model.proofs.Walked.{IsWalked}
use Rattle.path_model.proofs.choose.walk.Given as goal

abbrev pub invariant-loop-to : goal.invariant-loop-to
invariant-loop-to l = IsWalked l.nodes l.steps l.choices (reverse l.path.items) l.last l.used

abbrev pub decreases-loop-to : goal.decreases-loop-to
decreases-loop-to l = l.steps - length l.path.items
