use Rattle.std.proofs.Common.{ℕ, ◌<◌}
use Rattle.sparse_graph.specs.Plan.{IsLed}
use Rattle.sparse_graph.proofs.plan.are_led.Given as goal

abbrev pub invariant-loop-node : goal.invariant-loop-node
invariant-loop-node l = (n : ℕ) → n < l.node → IsLed l.nodes l.kept l.leads l.ranks n
