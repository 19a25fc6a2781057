-- The text of a number, and the number that has a text.
use Rattle.std.proofs.Common.{◌≡◌, ℕ, ◌^◌, ◌<◌, true, ltb, ◌&&◌, List, Some, None, decimal, refl, sym}
use Rattle.std.specs.Str.{bytes_eq}
use Rattle.std.specs.Str.Parse.{digits_value}
use Rattle.std.proofs.lemmas.Bool.{and_parts, ltb-true, lt-ltb}
use Rattle.std.proofs.lemmas.Fmt.{decimal_is_IsNumeral}
use Rattle.std.proofs.lemmas.Slice.Eq.{bytes_eq-Decides}
use Rattle.verdict_report.specs.Reading.{number_of}
use Rattle.verdict_report.proofs.Steps.{guarded_some, nothing}

-- the text of a number has this number
pub number_some : (digits : List ℕ) (n : ℕ) → n < 2 ^ 64 → digits ≡ decimal n → number_of digits ≡ Some n
unfolding number_of
number_some digits n fits is =
    let value : digits_value 10 digits ≡ n = rw is (decimal_is_IsNumeral n fits).1 in
    let same : bytes_eq (decimal n) digits ≡ true = (bytes_eq-Decides (decimal n) digits).1 (sym is) in
    let below : ltb n (2 ^ 64) ≡ true = lt-ltb n (2 ^ 64) fits in
    rw (value, same, below) refl

-- a text that has a number is the text of this number
pub number_takes : (digits : List ℕ) (n : ℕ) → number_of digits ≡ Some n → (digits ≡ decimal n) × (n < 2 ^ 64)
unfolding number_of
number_takes digits n h =
    let value = digits_value 10 digits in
    let g = guarded_some (ltb value (2 ^ 64) && bytes_eq (decimal value) digits) value n h in
    let parts = and_parts (ltb value (2 ^ 64)) (bytes_eq (decimal value) digits) g.0 in
    let is : decimal value ≡ digits = (bytes_eq-Decides (decimal value) digits).0 parts.1 in
    let below : value < 2 ^ 64 = ltb-true value (2 ^ 64) parts.0 in
    rw (← g.1) (sym is, below)

-- a text that is no number's has none
pub number_none : (digits : List ℕ) → ((n : ℕ) → n < 2 ^ 64 → digits ≡ decimal n → ⊥) → number_of digits ≡ None
number_none digits other = nothing (number_of digits) (λ n h. let t = number_takes digits n h in other n t.1 t.0)
