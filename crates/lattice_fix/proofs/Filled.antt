-- Lists in which each slot is filled.
use Rattle.std.proofs.Common.{◌≡◌, ℕ, suc, zero, ◌<◌, List, [], ◌∷◌, length, map, Option, Some, None, refl, sym, ◌∙◌, ap, arith}
use Rattle.std.specs.Prelude.{slice_get}
use Rattle.std.specs.List.{All}
use Rattle.std.proofs.lemmas.Option.{none-some}
use Rattle.std.proofs.lemmas.List.{length-map}
use Rattle.std.proofs.lemmas.List.Elements.{All-nil, All-cons}
use Rattle.lattice_fix.specs.Replay.{value_at}
use Rattle.lattice_fix.specs.Solved.{somes}
use Rattle.lattice_fix.specs.Course.{data_of}

-- slots that are all filled are the values in them
pub somes-filled : {V : Type 0} (slots : List (Option V)) →
    ((n : ℕ) → n < length slots → (v : V) × (value_at slots n ≡ Some v)) → map Some (somes slots) ≡ slots
somes-filled [] filled = refl
somes-filled {V} (None ∷ slots) filled = let whole : List (Option V) = None ∷ slots in
    let first : 0 < length whole = omega arith in
    let value = filled 0 first in absurd (none-some value.0 value.1)
somes-filled {V} (Some v ∷ slots) filled = ap (λ (w : List (Option V)). Some v ∷ w)
    (somes-filled slots (λ n inside. let next : suc n < length (Some v ∷ slots) = omega arith in filled (suc n) next))

-- there are as many values as filled slots
pub length-somes : {V : Type 0} (slots : List (Option V)) → map Some (somes slots) ≡ slots →
    length (somes slots) ≡ length slots
length-somes slots filled = sym (length-map (somes slots) Some) ∙ ap length filled

-- what a filled slot has
pub value_at-filled : {V : Type 0} (values : List V) (n : ℕ) → value_at (map Some values) n ≡ slice_get values n
value_at-filled [] n = refl
value_at-filled (v ∷ values) zero = refl
value_at-filled (v ∷ values) (suc n) = value_at-filled values n

-- what filled slots stand for
pub data_of-filled : {V D : Type 0} (stands : V → D) (values : List V) →
    data_of stands (map Some values) ≡ map (λ v. Some (stands v)) values
data_of-filled stands [] = refl
data_of-filled {V} {D} stands (v ∷ values) =
    ap (λ (w : List (Option D)). Some (stands v) ∷ w) (data_of-filled stands values)

-- the data of the values, filled
pub map-filled : {V D : Type 0} (stands : V → D) (values : List V) →
    map Some (map stands values) ≡ map (λ v. Some (stands v)) values
map-filled stands [] = refl
map-filled {V} {D} stands (v ∷ values) = ap (λ (w : List (Option D)). Some (stands v) ∷ w) (map-filled stands values)

-- what holds of each place's value holds of each value
pub All-filled : {V : Type 0} (P : V → Type 0) (values : List V) →
    ((n : ℕ) (v : V) → slice_get values n ≡ Some v → P v) → All P values
All-filled P [] each = All-nil P
All-filled P (v ∷ values) each = All-cons P v values (each 0 v refl) (All-filled P values (λ n w is. each (suc n) w is))
