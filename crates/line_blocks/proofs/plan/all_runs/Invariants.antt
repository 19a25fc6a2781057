use Rattle.std.proofs.Common.{ℕ, ◌<◌}
use Rattle.line_blocks.specs.Runs.{IsRun}
use Rattle.line_blocks.proofs.plan.all_runs.Given as goal

abbrev pub invariant-loop-run : goal.invariant-loop-run
invariant-loop-run l = (p : ℕ) → p < l.run → IsRun l.nodes l.numbers l.runs p
