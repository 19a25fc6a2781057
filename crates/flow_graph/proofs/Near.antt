-- How far a pair leads: its two immediates have 32 and 12 bits.
use Rattle.std.proofs.Common.{ℕ, ◌^◌, Bool, true, false, arith}
use Rattle.std.proofs.lemmas.Int.{ints}
use Rattle.std.specs.Prelude.{pos, neg_ℤ, ◌+ℤ◌, ◌≤ℤ◌, ◌<ℤ◌, Some, None, IfSome, if◌then◌else◌}
use Rattle.riscv_spec.specs.Immediate.{jalr_immediate, auipc_immediate}
use Rattle.riscv_spec.specs.Pair.{is_pair, pair_of}
use Rattle.flow_graph.specs.Offset.{IsNear}

-- 12 bits of two's complement
jalr_immediate_range : (word : ℕ)
    → (neg_ℤ (pos (2 ^ 11)) ≤ℤ jalr_immediate word) × (jalr_immediate word <ℤ pos (2 ^ 11))
jalr_immediate_range word = grind (arith, ints)

-- 32 bits of two's complement
auipc_immediate_range : (word : ℕ)
    → (neg_ℤ (pos (2 ^ 31)) ≤ℤ auipc_immediate word) × (auipc_immediate word <ℤ pos (2 ^ 31))
auipc_immediate_range word = grind (arith, ints)

-- both together lead no farther than once round
sum_is_near : (previous word : ℕ) → IsNear (auipc_immediate previous +ℤ jalr_immediate word)
sum_is_near previous word =
    let low = jalr_immediate_range word in
    let high = auipc_immediate_range previous in
    omega (arith, ints)

-- so does a pair, where there is one
if_some_near : (b : Bool) (previous word : ℕ)
    → IfSome (if b then Some (auipc_immediate previous +ℤ jalr_immediate word) else None) IsNear
if_some_near true previous word = sum_is_near previous word
if_some_near false previous word = tt

-- a pair's number is near
pub pair_is_near : (previous word : ℕ) → IfSome (pair_of previous word) IsNear
unfolding pair_of
pair_is_near previous word = if_some_near (is_pair previous word) previous word
