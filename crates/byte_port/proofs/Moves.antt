-- Calls that each moved some bytes, one after another.
use Rattle.std.proofs.Common.{◌≡◌, ℕ, ◌<◌, List, [], ◌∷◌, Result, Ok, refl, sym, subst}
use Rattle.byte_port.specs.Calls.{MovesEach, MovesSome, EndsWith}

-- no call
pub MovesSome-none : {P E : Type 0} (step : P → Result ℕ E → P → Type 0) (a : P) → MovesSome step a a
MovesSome-none step a = ([], refl)

-- one call more
pub MovesSome-more : {P E : Type 0} (step : P → Result ℕ E → P → Type 0) (a b c : P) (count : ℕ)
    → MovesSome step a b → 0 < count → step b (Ok count) c → MovesSome step a c
MovesSome-more step a b c count before some next = (count ∷ before.0, (b, before.1, some, next))

-- calls, and then more calls
MovesEach-trans : {P E : Type 0} (step : P → Result ℕ E → P → Type 0) (a b c : P) (later : List ℕ)
    → MovesSome step a b → MovesEach step later b c → MovesSome step a c
MovesEach-trans step a b c [] before next = subst (MovesSome step a) (sym next) before
MovesEach-trans step a b c (count ∷ later) before (last, next, some, moved) =
    MovesSome-more step a last c count (MovesEach-trans step a b last later before next) some moved

pub MovesSome-trans : {P E : Type 0} (step : P → Result ℕ E → P → Type 0) (a b c : P)
    → MovesSome step a b → MovesSome step b c → MovesSome step a c
MovesSome-trans step a b c before next = MovesEach-trans step a b c next.0 before next.1

-- calls, and then more calls with an end
pub EndsWith-after : {P E : Type 0} (step : P → Result ℕ E → P → Type 0) (answer : Result ℕ E) (a b c : P)
    → MovesSome step a b → EndsWith step answer b c → EndsWith step answer a c
EndsWith-after step answer a b c before next = (next.0, MovesSome-trans step a b next.0 before next.1, next.2)
