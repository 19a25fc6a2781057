use Rattle.std.proofs.Common.{◌≡◌, ℕ, ◌<◌, get_or}
use Rattle.node_verdicts.proofs.one_block.local_of.Given as goal

-- the block is at none of the places before
abbrev pub invariant-loop-local : goal.invariant-loop-local
invariant-loop-local l = (place : ℕ) → place < l.local → get_or l.blocks place 0 ≡ l.block → ⊥
