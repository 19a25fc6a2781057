use Rattle.std.proofs.Common.{◌≡◌}
use Rattle.node_verdicts.specs.Noted.{with_heads}
use Rattle.node_verdicts.proofs.noting.note_all.Given as goal

-- the verdicts of the first nodes are noted
abbrev pub invariant-loop-head : goal.invariant-loop-head
invariant-loop-head l = l.verdicts.items ≡ with_heads l.yielded l.initial.verdicts.items
