use Rattle.std.proofs.Common.{reverse, take}
use Rattle.sparse_graph.specs.Expand.{IsExpanded}
use Rattle.sparse_graph.proofs.expand.expand_path.Given as goal

abbrev pub invariant-loop-place : goal.invariant-loop-place
invariant-loop-place l = IsExpanded l.sparse (reverse (take l.place l.path)) (reverse l.whole.items)
