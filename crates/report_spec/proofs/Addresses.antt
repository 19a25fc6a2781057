-- How the text of an address is made.
use Rattle.std.proofs.Common.{◌≡◌, ℕ, zero, suc, length, ap, arith}
use Rattle.std.specs.Int.{w32, to_be_bytes}
use Rattle.hex.specs.Hex.{lower_digits, IsBytes}
use Rattle.hex.proofs.HexLemmas.{length-encode_with}
use Rattle.report_spec.specs.Text.{address_text}

-- an address is written in ten bytes
pub length-address_text : (p : ℕ) → length (address_text p) ≡ 10
unfolding address_text
length-address_text p = ap (λ (n : ℕ). suc (suc n)) (length-encode_with lower_digits (to_be_bytes w32 p))

-- the bytes of a number are bytes
pub IsBytes-to_be_bytes : (p : ℕ) → IsBytes (to_be_bytes w32 p)
IsBytes-to_be_bytes p zero = omega arith
IsBytes-to_be_bytes p (suc zero) = omega arith
IsBytes-to_be_bytes p (suc (suc zero)) = omega arith
IsBytes-to_be_bytes p (suc (suc (suc zero))) = omega arith
IsBytes-to_be_bytes p (suc (suc (suc (suc i)))) = omega arith
