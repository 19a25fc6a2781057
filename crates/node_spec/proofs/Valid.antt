-- A way that names a path is valid: it has a member, and its choices are letters.
use Rattle.std.proofs.Common.{◌≡◌, ℕ, ◌<◌, List, [], ◌∷◌, lt-ltb, ap, ◌∙◌, inl, inr, arith}
use Rattle.std.specs.Prelude.{true, nat_lt, Result, Ok, Err}
use Rattle.std.specs.List.{list_all}
use Rattle.std.proofs.lemmas.Bool.{and_from}
use Rattle.std.proofs.lemmas.List.Folds.{list_all-append}
use Rattle.transition_spec.specs.declared.way.Way.{Way}
use Rattle.transition_spec.specs.Path.{IsLetter, HasChoices}
use Rattle.transition_spec.specs.Named.{Names}
use Rattle.report_spec.specs.Valid.{is_letter, is_valid_way}

-- the letter of a move is one of the two, or none
letter_valid : {C F : Type 0} (next : Result (List C) F) (d : C) (letter : List ℕ) → IsLetter next d letter
    → list_all is_letter letter ≡ true
letter_valid (Ok []) d letter is = ap (list_all is_letter) is
letter_valid (Ok (first ∷ [])) d letter is = ap (list_all is_letter) is
letter_valid (Ok (first ∷ second ∷ [])) d letter (inl (same, is)) = ap (list_all is_letter) is
letter_valid (Ok (first ∷ second ∷ [])) d letter (inr (same, is)) = ap (list_all is_letter) is
letter_valid (Ok (first ∷ second ∷ third ∷ others)) d letter is = ap (list_all is_letter) is
letter_valid (Err fault) d letter is = ap (list_all is_letter) is

-- the choices of a path are letters
choices_valid : {C F : Type 0} (step : C → Result (List C) F) (path : List C) (letters : List ℕ)
    → HasChoices step path letters
    → list_all is_letter letters ≡ true
choices_valid step [] letters is = ap (list_all is_letter) is
choices_valid step (c ∷ []) letters is = ap (list_all is_letter) is
choices_valid step (d ∷ c ∷ earlier) letters (before, letter, has, is, whole) =
    ap (list_all is_letter) whole ∙ list_all-append is_letter before letter
    ∙ and_from (list_all is_letter before) (list_all is_letter letter) (choices_valid step (c ∷ earlier) before has)
    (letter_valid (step c) d letter is)

-- a way that names a path of some member is valid
pub way_valid : {C F : Type 0} (step : C → Result (List C) F) (c : C) (earlier : List C) (way : Way)
    → Names step way (c ∷ earlier)
    → is_valid_way way ≡ true
way_valid step c earlier way names =
    let some : 0 < way.steps = omega (arith, names.steps) in
    and_from (nat_lt 0 way.steps) (list_all is_letter way.choices) (lt-ltb 0 way.steps some)
    (choices_valid step (c ∷ earlier) way.choices names.choices)
