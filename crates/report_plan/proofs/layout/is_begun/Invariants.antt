use Rattle.std.proofs.Common.{◌≡◌, ℕ, take}
use Rattle.std.specs.List.{Contains}
use Rattle.call_expand.specs.Expansion.{numbered}
use Rattle.report_plan.proofs.layout.is_begun.Given as goal

abbrev pub invariant-loop-node : goal.invariant-loop-node
invariant-loop-node l = (n : ℕ) → Contains (take l.node-index l.node-items) n
    → (numbered l.layout.configurations n).part ≡ 0 → ⊥
