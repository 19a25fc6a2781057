-- What tests for equality mean.
use Rattle.std.proofs.Common.{◌≡◌, ◌≢◌, ℕ, Bool, true, false, eqb, Option, Some, None, refl, ap}
use Rattle.std.proofs.lemmas.Bool.{eqb-true, eq-eqb, both_ways}
use Rattle.std.specs.Option.{option_eq}
use mathlib.Core.Bool.{beq}

-- tests that are found equal are
pub same_tests : (a b : Bool) → beq a b ≡ true → a ≡ b
same_tests true true is = refl
same_tests false false is = refl
same_tests true false is = absurd (cc)
same_tests false true is = absurd (cc)

-- and others aren't
pub other_tests : (a b : Bool) → beq a b ≡ false → a ≢ b
other_tests true true is same = absurd (cc)
other_tests false false is same = absurd (cc)
other_tests true false is same = absurd (cc)
other_tests false true is same = absurd (cc)

-- a number that is found is there
pub same_number : (o : Option ℕ) (x : ℕ) → option_eq eqb o (Some x) ≡ true → o ≡ Some x
same_number None x is = absurd (cc)
same_number (Some y) x is = ap Some (eqb-true y x is)

-- and one that isn't is not
pub other_number : (o : Option ℕ) (x : ℕ) → option_eq eqb o (Some x) ≡ false → o ≢ Some x
other_number None x is same = absurd (cc)
other_number (Some y) x is same = both_ways (eqb y x) is (eq-eqb y x (let e : y ≡ x = cc in e))
