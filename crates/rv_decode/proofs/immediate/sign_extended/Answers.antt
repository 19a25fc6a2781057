-- With the sign bit at half of the range, both sides are sums of the number and of powers of two that fit 30 bits.
use Rattle.std.proofs.Common.{◌≡◌, ◌∙◌, ℕ, ◌+◌, ◌-◌, ◌*◌, ◌%◌, ◌^◌, ◌<◌, ◌≤◌, ap, arith}
use Rattle.std.proofs.lemmas.Int.{ints}
use Rattle.std.proofs.lemmas.Nat.{one_shl, pow-add, pow_below}
use Rattle.std.specs.Prelude.{negsuc}
use Rattle.riscv_spec.specs.Immediate.{signed}
use Rattle.rv_decode.proofs.immediate.sign_extended.Goals as goal

pow-half : (bits : ℕ) → 0 < bits → 2 ^ bits ≡ 2 * 2 ^ (bits - 1)
pow-half bits some = let e : bits ≡ 1 + (bits - 1) = omega arith in ap (λ n. 2 ^ n) e ∙ pow-add 2 1 (bits - 1)

half_shl : (bits : ℕ) → bits < 31 → (1 * 2 ^ (bits - 1)) % 2 ^ 32 ≡ 2 ^ (bits - 1)
half_shl bits few = one_shl (bits - 1) 32 (omega arith)

half_below : (bits : ℕ) → bits < 31 → 2 ^ (bits - 1) < 2 ^ 30
half_below bits few = pow_below (bits - 1) 30 (omega arith)

signed-high : (bits n : ℕ) → 2 ^ (bits - 1) ≤ n → signed bits n ≡ negsuc (2 ^ bits - 1 - n)
signed-high bits n h = grind arith

pub overflow_sub-result : goal.overflow_sub-result
overflow_sub-result c =
    let whole = pow-half c.args.bits c.requires.some in
    let shifted = half_shl c.args.bits c.requires.few in
    let below = half_below c.args.bits c.requires.few in
    omega (arith, ints)

pub returns : goal.returns
returns c =
    let whole = pow-half c.args.bits c.requires.some in
    let shifted = half_shl c.args.bits c.requires.few in
    let below = half_below c.args.bits c.requires.few in
    let high = signed-high c.args.bits c.args.number (omega arith) in
    rw high (omega (arith, ints))
