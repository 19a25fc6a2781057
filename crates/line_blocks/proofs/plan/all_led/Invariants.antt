use Rattle.std.proofs.Common.{ℕ, ◌<◌}
use Rattle.line_blocks.specs.Runs.{IsLed}
use Rattle.line_blocks.proofs.plan.all_led.Given as goal

abbrev pub invariant-loop-node : goal.invariant-loop-node
invariant-loop-node l = (n : ℕ) → n < l.node → IsLed l.nodes l.geometry l.numbers l.runs n
