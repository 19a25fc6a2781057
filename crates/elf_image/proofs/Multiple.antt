-- The least multiple of a size at or above a number, as rounding up gives it.
use Rattle.std.proofs.Common.{◌≡◌, ℕ, ◌+◌, ◌*◌, ◌/◌, ◌%◌, ◌<◌, ◌≤◌, inl, inr, arith}
use Rattle.std.proofs.lemmas.Bool.{cases_lt}
use Rattle.std.proofs.lemmas.Grind.{div_ceil_times}
use Rattle.std.proofs.lemmas.Nat.{mul-le, div-add-mod'}
use Rattle.std.specs.Prelude.{min}

-- no multiple at or above the number lies below it
pub least_multiple : (a size n : ℕ) → 0 < size → n % size ≡ 0 → a ≤ n → (a / size + min 1 (a % size)) * size ≤ n
least_multiple a size n some multiple above =
    let quotient = a / size + min 1 (a % size) in
    let whole : n / size * size + n % size ≡ n = div-add-mod' n size in
    let near : quotient * size < a + size = (div_ceil_times a size some).1 in
    elim (cases_lt (n / size) quotient) [
      | inl less ↦
          let step : (n / size + 1) * size ≤ quotient * size = mul-le (n / size + 1) size quotient size (omega arith)
          (omega arith) in
          omega arith
      | inr other ↦
          let step : quotient * size ≤ n / size * size = mul-le quotient size (n / size) size other (omega arith) in
          omega arith
    ]
