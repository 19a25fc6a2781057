-- A number, choices and a way are read as they are written, and what is read is written so.
use Rattle.std.proofs.Common.{◌≡◌, ℕ, ◌^◌, ◌<◌, Bool, true, false, ltb, eqb, List, [], ◌∷◌, ◌++◌, Some, decimal, refl, sym, ap, ◌∙◌, append_assoc, arith, inl, inr}
use Rattle.std.specs.Prelude.{codes, not, ◌==◌}
use Rattle.std.specs.Char.{is_ascii_digit}
use Rattle.std.specs.List.{list_all}
use Rattle.std.specs.Str.{bytes_eq, all_ascii_digits}
use Rattle.std.proofs.lemmas.Bool.{cases_Bool, and_parts, ltb-true, lt-ltb}
use Rattle.std.specs.Cmp.Derive.{both_true}
use Rattle.std.proofs.lemmas.Fmt.{digits_decimal}
use Rattle.std.proofs.lemmas.Str.Parse.{numerals_by_value, tells_all_ascii_digits}
use Rattle.std.proofs.lemmas.Slice.Eq.{bytes_eq-Decides}
use Rattle.transition_spec.specs.declared.way.Way.{Way}
use Rattle.report_spec.specs.Text.{choices_text, way_text}
use Rattle.report_spec.specs.Valid.{is_letter, is_valid_way}
use Rattle.report_spec.specs.HasText.{FitsWay}
use Rattle.verdict_report.specs.Reading.{guarded, field_at, number_of, number_at, small_at, choices_of, way_at}
use Rattle.verdict_report.proofs.Steps.{bind_some, guarded_some, same_some, onward_past}
use Rattle.verdict_report.proofs.FieldEnds.{is_free, field_takes, field_again}
use Rattle.verdict_report.proofs.Numbers.{number_some, number_takes}

-- ---- numbers

-- no digit is a byte that ends a field
digit_free : (end byte : ℕ) → end < 45 → is_ascii_digit byte ≡ true → not (byte == end) ≡ true
digit_free end byte low digit = grind arith

digits_free : (end : ℕ) (digits : List ℕ) → end < 45 → all_ascii_digits digits ≡ true → is_free end digits ≡ true
digits_free end [] low h = refl
digits_free end (byte ∷ digits) low h =
    let parts = and_parts (is_ascii_digit byte) (all_ascii_digits digits) h in
    rw (digit_free end byte low parts.0, digits_free end digits low parts.1) refl

decimal_free : (end n : ℕ) → end < 45 → n < 2 ^ 64 → is_free end (decimal n) ≡ true
decimal_free end n low fits = digits_free end (decimal n) low
    (digits_decimal (numerals_by_value _ tells_all_ascii_digits) n fits)

pub number_at_takes : (text : List ℕ) (read : ℕ × List ℕ) → number_at text ≡ Some read
    → (text ≡ decimal read.0 ++ (32 ∷ read.1)) × (read.0 < 2 ^ 64)
unfolding number_at
number_at_takes text read h =
    let field = bind_some (field_at 32 text) _ read h in
    let n = bind_some (number_of field.0.0) _ read field.2 in
    let e = same_some (n.0, field.0.1) read n.2 in
    let t = field_takes 32 text field.0 field.1 in
    let d = number_takes field.0.0 n.0 n.1 in
    rw (← e) (t ∙ ap (λ (digits : List ℕ). digits ++ (32 ∷ field.0.1)) d.0, d.1)

pub number_at_again : (n : ℕ) (rest : List ℕ) → n < 2 ^ 64 → number_at (decimal n ++ (32 ∷ rest)) ≡ Some (n, rest)
unfolding number_at
number_at_again n rest fits =
    rw (field_again 32 (decimal n) rest (decimal_free 32 n (omega arith) fits), number_some (decimal n) n fits refl)
    refl

pub small_takes : (text : List ℕ) (read : ℕ × List ℕ) → small_at text ≡ Some read
    → (text ≡ decimal read.0 ++ (32 ∷ read.1)) × (read.0 < 2 ^ 32)
unfolding small_at
small_takes text read h =
    let n = bind_some (number_at text) _ read h in
    let g = guarded_some (ltb n.0.0 (2 ^ 32)) n.0 read n.2 in
    let t = number_at_takes text n.0 n.1 in
    rw (← g.1) (t.0, ltb-true n.0.0 (2 ^ 32) g.0)

pub small_again : (n : ℕ) (rest : List ℕ) → n < 2 ^ 32 → small_at (decimal n ++ (32 ∷ rest)) ≡ Some (n, rest)
unfolding small_at
small_again n rest fits =
    let below : ltb n (2 ^ 32) ≡ true = lt-ltb n (2 ^ 32) fits in
    rw (number_at_again n rest (omega arith)) (rw below refl)

-- ---- choices

-- no letter is a byte that ends a field
letter_free : (end letter : ℕ) → end < 45 → is_letter letter ≡ true → not (letter == end) ≡ true
letter_free end letter low h = grind arith

letters_free : (end : ℕ) (letters : List ℕ) → end < 45 → list_all is_letter letters ≡ true → is_free end letters ≡ true
letters_free end [] low h = refl
letters_free end (letter ∷ letters) low h =
    let parts = and_parts (is_letter letter) (list_all is_letter letters) h in
    rw (letter_free end letter low parts.0, letters_free end letters low parts.1) refl

choices_free : (end : ℕ) (choices : List ℕ) → end < 45 → list_all is_letter choices ≡ true
    → is_free end (choices_text choices) ≡ true
choices_free end [] low h = grind arith
choices_free end (letter ∷ letters) low h = letters_free end (letter ∷ letters) low h

choices_takes : (letters choices : List ℕ) → choices_of letters ≡ Some choices
    → (letters ≡ choices_text choices) × (list_all is_letter choices ≡ true)
unfolding choices_of
choices_takes [] choices h = absurd cc
choices_takes (letter ∷ letters) choices h = elim (cases_Bool (bytes_eq (letter ∷ letters) (codes "-"))) [
  | inl dash ↦
      let e = same_some [] choices (rw dash at h) in
      rw (← e) ((bytes_eq-Decides (letter ∷ letters) (codes "-")).0 dash, refl)
  | inr other ↦
      let g = guarded_some (list_all is_letter (letter ∷ letters)) (letter ∷ letters) choices (rw other at h) in
      rw (← g.1) (refl, g.0)
]

-- letters are no dash
letter_no_dash : (letter : ℕ) (letters : List ℕ) → is_letter letter ≡ true
    → bytes_eq (letter ∷ letters) (codes "-") ≡ false
letter_no_dash letter letters h =
    let other : eqb letter 45 ≡ false = grind arith in
    rw other refl

choices_again : (choices : List ℕ) → list_all is_letter choices ≡ true
    → choices_of (choices_text choices) ≡ Some choices
unfolding choices_of
choices_again [] h = refl
choices_again (letter ∷ letters) h =
    let parts = and_parts (is_letter letter) (list_all is_letter letters) h in
    rw (letter_no_dash letter letters parts.0) (ap (λ (b : Bool). guarded b (letter ∷ letters)) h)

-- ---- ways

pub way_takes : (end : ℕ) (text : List ℕ) (read : Way × List ℕ) → way_at end text ≡ Some read
    → (text ≡ way_text read.0 ++ (end ∷ read.1)) × FitsWay read.0 × (is_valid_way read.0 ≡ true)
unfolding way_at
way_takes end text read h =
    let steps = bind_some (number_at text) _ read h in
    let letters = bind_some (field_at end steps.0.1) _ read steps.2 in
    let choices = bind_some (choices_of letters.0.0) _ read letters.2 in
    let made : Way = record { steps = steps.0.0; choices = choices.0 } in
    let g = guarded_some (ltb 0 steps.0.0) (made, letters.0.1) read choices.2 in
    let s = number_at_takes text steps.0 steps.1 in
    let w = field_takes end steps.0.1 letters.0 letters.1 in
    let c = choices_takes letters.0.0 choices.0 choices.1 in
    let rest : steps.0.1 ≡ choices_text choices.0 ++ (end ∷ letters.0.1) =
    w ∙ ap (λ (l : List ℕ). l ++ (end ∷ letters.0.1)) c.0 in
    let regrouped = append_assoc (decimal steps.0.0) (32 ∷ choices_text choices.0) (end ∷ letters.0.1) in
    rw (← g.1) (onward_past (decimal steps.0.0) 32 s.0 rest ∙ sym regrouped, s.1, both_true g.0 c.1)

pub way_again : (end : ℕ) (way : Way) (rest : List ℕ) → end < 45 → FitsWay way → is_valid_way way ≡ true
    → way_at end (way_text way ++ (end ∷ rest)) ≡ Some (way, rest)
unfolding way_at
way_again end way rest low fits valid =
    let parts = and_parts (ltb 0 way.steps) (list_all is_letter way.choices) valid in
    let regrouped : way_text way ++ (end ∷ rest) ≡ decimal way.steps
    ++ (32 ∷ (choices_text way.choices ++ (end ∷ rest))) =
    append_assoc (decimal way.steps) (32 ∷ choices_text way.choices) (end ∷ rest) in
    ap (way_at end) regrouped
    ∙ rw (number_at_again way.steps (choices_text way.choices ++ (end ∷ rest)) fits)
    (rw (field_again end (choices_text way.choices) rest (choices_free end way.choices low parts.1))
    (rw (choices_again way.choices parts.1) (rw parts.0 refl)))
