use Rattle.std.proofs.Common.{reverse, take}
use Rattle.line_blocks.proofs.Named.{IsNamed}
use Rattle.line_blocks.proofs.ways.way_of.Given as goal

abbrev pub invariant-loop-place : goal.invariant-loop-place
invariant-loop-place l = IsNamed l.blocks (reverse (take l.place l.path)) l.steps
