use Rattle.std.proofs.Common.{ℕ, take}
use Rattle.std.specs.List.{Contains}
use Rattle.report_plan.specs.Sources.{IsSought}
use Rattle.report_plan.proofs.merge.first_of.Given as goal

abbrev pub invariant-loop-node : goal.invariant-loop-node
invariant-loop-node l = (n : ℕ) → Contains (take l.node-index l.here) n → IsSought l.verdicts l.sought n → ⊥
