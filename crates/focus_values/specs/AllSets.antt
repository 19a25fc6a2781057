-- All sets of local numbers are listed.
use Rattle.std.proofs.Common.{◌≡◌, ℕ, zero, suc, ◌+◌, true, ◌&&◌, List, [], ◌∷◌, map, ltb, leb, refl, sym, inl, inr, subst, arith}
use Rattle.std.proofs.lemmas.Bool.{and_parts, and_from, ltb-true, leb-true, le-leb, cases_eq}
use Rattle.std.proofs.lemmas.List.Elements.{Contains-append_left, Contains-append_right}
use Rattle.std.specs.List.{Contains}
use Rattle.list_lemmas.proofs.Members.{has-map}
use Rattle.focus_values.specs.Sets.{rises, sets_from}

-- the sets from a least number on are all that rise from there
pub sets_complete : (n low high : ℕ) (set : List ℕ) → low + n ≡ high → rises low high set ≡ true
    → Contains (sets_from n low) set
sets_complete zero low high [] span up = (0, omega arith, refl)
sets_complete zero low high (x ∷ xs) span up =
    let low_parts = and_parts (leb low x) (ltb x high && rises (x + 1) high xs) up in
    let high_parts = and_parts (ltb x high) (rises (x + 1) high xs) low_parts.1 in
    absurd (omega (arith, leb-true low x low_parts.0, ltb-true x high high_parts.0))
sets_complete (suc n) low high [] span up =
    Contains-append_left (sets_from n (low + 1)) (map (λ s. low ∷ s) (sets_from n (low + 1))) []
    (sets_complete n (low + 1) high [] (omega arith) refl)
sets_complete (suc n) low high (x ∷ xs) span up =
    let rest = sets_from n (low + 1) in
    let low_parts = and_parts (leb low x) (ltb x high && rises (x + 1) high xs) up in
    let high_parts = and_parts (ltb x high) (rises (x + 1) high xs) low_parts.1 in
    elim (cases_eq x low) [
      | inl first ↦
          let beyond : rises (low + 1) high xs ≡ true = subst (λ (k : ℕ). rises (k + 1) high xs ≡ true) first
          high_parts.1 in
          let there = has-map (λ s. low ∷ s) rest xs (sets_complete n (low + 1) high xs (omega arith) beyond) in
          Contains-append_right rest (map (λ s. low ∷ s) rest) (x ∷ xs)
          (subst (λ (k : ℕ). Contains (map (λ s. low ∷ s) rest) (k ∷ xs)) (sym first) there)
      | inr later ↦
          let above : leb (low + 1) x ≡ true = le-leb (low + 1) x (omega (arith, leb-true low x low_parts.0, later)) in
          let up_later : rises (low + 1) high (x ∷ xs) ≡ true = and_from (leb (low + 1) x)
          (ltb x high && rises (x + 1) high xs) above low_parts.1 in
          Contains-append_left rest (map (λ s. low ∷ s) rest) (x ∷ xs)
          (sets_complete n (low + 1) high (x ∷ xs) (omega arith) up_later)
    ]
