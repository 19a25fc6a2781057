-- A field ends at the first byte of a value.
use Rattle.std.proofs.Common.{add-one, length-drop, ◌≡◌, ℕ, suc, ◌+◌, ◌-◌, ◌≤◌, Bool, true, false, cond, ltb, List, [], ◌∷◌, ◌++◌, length, take, drop, Option, Some, None, refl, ap, ◌∙◌, arith, inl, inr}
use Rattle.std.specs.Prelude.{option_map, not, ◌==◌}
use Rattle.std.specs.List.{position_or_len, list_all}
use Rattle.std.proofs.lemmas.Bool.{cases_Bool, and_parts, not-true, eq-eqb, eqb-true, ltb-true, ltb-false, lt-ltb, le-ltb}
use Rattle.std.proofs.lemmas.List.{take_all}
use Rattle.verdict_report.specs.Reading.{field_at}
use Rattle.verdict_report.proofs.Steps.{map_some, same_some}

-- the test of the byte that ends a field
abbrev pub is_end : ℕ → ℕ → Bool
is_end end byte = byte == end

-- no byte of the text has the value
abbrev pub is_free : ℕ → List ℕ → Bool
is_free end text = list_all (λ byte. not (byte == end)) text

-- the field before a place, and the text after it
abbrev pub cut_at : ℕ → List ℕ → Option (List ℕ × List ℕ)
cut_at place text = Some (take place text, drop (suc place) text)

-- the cut at a first byte that ends the field
cut_here : (byte : ℕ) (text : List ℕ) (place : ℕ) → place ≡ 0
    → Some ([], text) ≡ cond (ltb place (length (byte ∷ text))) (cut_at place (byte ∷ text)) None
cut_here byte text place is =
    let within : ltb place (length (byte ∷ text)) ≡ true = lt-ltb place (length (byte ∷ text)) (omega arith) in
    rw within (rw is refl)

-- the cut after a first byte that doesn't
cut_on : (byte : ℕ) (text : List ℕ) (place next : ℕ) → next ≡ suc place
    → option_map (λ field. (byte ∷ field.0, field.1)) (cond (ltb place (length text)) (cut_at place text) None)
    ≡ cond (ltb next (length (byte ∷ text))) (cut_at next (byte ∷ text)) None
cut_on byte text place next is = elim (cases_Bool (ltb place (length text))) [
  | inl within ↦
      let below = ltb-true place (length text) within in
      let on : ltb next (length (byte ∷ text)) ≡ true = lt-ltb next (length (byte ∷ text)) (omega arith) in
      rw (within, on, is) refl
  | inr past ↦
      let above = ltb-false place (length text) past in
      let on : ltb next (length (byte ∷ text)) ≡ false = le-ltb next (length (byte ∷ text)) (omega arith) in
      rw (past, on) refl
]

-- a field is cut at the first place of a byte that ends it
pub word_is : (end : ℕ) (text : List ℕ)
    → field_at end text ≡ cond (ltb (position_or_len (is_end end) text) (length text))
    (cut_at (position_or_len (is_end end) text) text) None
unfolding field_at
word_is end [] = refl
word_is end (byte ∷ text) = elim (cases_Bool (byte == end)) [
  | inl here ↦ rw here (cut_here byte text _ refl)
  | inr other ↦ rw (other, word_is end text) (cut_on byte text (position_or_len (is_end end) text) _ (omega arith))
]

-- the first place, where there is one
abbrev pub place_of : ℕ → List ℕ → Option ℕ
place_of end text = cond (ltb (position_or_len (is_end end) text) (length text))
    (Some (position_or_len (is_end end) text)) None

-- where there is no such place, there is no field
pub no_field : (end : ℕ) (text : List ℕ) → place_of end text ≡ None → field_at end text ≡ None
no_field end text none = elim (cases_Bool (ltb (position_or_len (is_end end) text) (length text))) [
  | inl some ↦ absurd (cc (rw some at none))
  | inr past ↦ word_is end text ∙ rw past refl
]

-- the field and what stands after it, as slices give them
pub word_found : (end : ℕ) (text : List ℕ) (place : ℕ) → place_of end text ≡ Some place
    → field_at end text ≡ Some (take place text, take (length text - (place + 1)) (drop (place + 1) text))
word_found end text place found = elim (cases_Bool (ltb (position_or_len (is_end end) text) (length text))) [
  | inl some ↦
      let e = same_some (position_or_len (is_end end) text) place (rw some at found) in
      let long : length (drop (place + 1) text) ≤ length text - (place + 1) =
      omega (arith, length-drop (place + 1) text) in
      word_is end text ∙ rw (some, e, take_all (length text - (place + 1)) (drop (place + 1) text) long, add-one) refl
  | inr past ↦ absurd (cc (rw past at found))
]

-- a text that has a field begins with it and the byte that ends it
pub field_takes : (end : ℕ) (text : List ℕ) (field : List ℕ × List ℕ) → field_at end text ≡ Some field
    → text ≡ field.0 ++ (end ∷ field.1)
unfolding field_at
field_takes end [] field h = absurd cc
field_takes end (byte ∷ text) field h = elim (cases_Bool (byte == end)) [
  | inl here ↦
      let e = same_some ([], text) field (rw here at h) in
      let is : byte ≡ end = eqb-true byte end here in
      rw (← e, is) refl
  | inr other ↦
      let m = map_some (λ (w : List ℕ × List ℕ). (byte ∷ w.0, w.1)) (field_at end text) field (rw other at h) in
      let rest = field_takes end text m.0 m.1 in
      rw (← m.2) (ap (λ (left : List ℕ). byte ∷ left) rest)
]

-- a field free of the byte that ends it is read again
pub field_again : (end : ℕ) (field later : List ℕ) → is_free end field ≡ true
    → field_at end (field ++ (end ∷ later)) ≡ Some (field, later)
unfolding field_at
field_again end [] later free = rw (eq-eqb end end refl) refl
field_again end (byte ∷ field) later free =
    let parts = and_parts (not (byte == end)) (is_free end field) free in
    let other : (byte == end) ≡ false = not-true (byte == end) parts.0 in
    rw (other, field_again end field later parts.1) refl
