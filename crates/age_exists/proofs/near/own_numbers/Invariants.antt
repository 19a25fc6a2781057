use Rattle.std.proofs.Common.{◌≡◌, ℕ, map, Some}
use Rattle.std.specs.List.{range_with_len}
use Rattle.age_exists.proofs.near.own_numbers.Given as goal

abbrev pub invariant-loop-number : goal.invariant-loop-number
invariant-loop-number l = l.numbers.items ≡ map (λ (n : ℕ). Some n) (range_with_len 0 l.number)
