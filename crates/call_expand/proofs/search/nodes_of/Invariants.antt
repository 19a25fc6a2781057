use Rattle.std.proofs.Common.{take}
use Rattle.call_expand.specs.Numbers.{AreNodesFor}
use Rattle.call_expand.proofs.search.nodes_of.Given as goal

abbrev pub invariant-loop-index : goal.invariant-loop-index
invariant-loop-index l = AreNodesFor l.known (take l.index l.known) (take l.index l.edges) l.nodes.items
