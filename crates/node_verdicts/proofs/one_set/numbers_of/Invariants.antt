use Rattle.std.proofs.Common.{◌≡◌, map, take}
use Rattle.focus_spec.specs.Younger.{named}
use Rattle.node_verdicts.proofs.one_set.numbers_of.Given as goal

-- the numbers of the first ones are there
abbrev pub invariant-loop-place : goal.invariant-loop-place
invariant-loop-place l = l.numbers.items ≡ map (named l.blocks) (take l.place-index l.places)
