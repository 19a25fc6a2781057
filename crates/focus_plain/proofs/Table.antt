-- The table of sets, with one more set.
use Rattle.std.proofs.Common.{◌≡◌, ℕ, ◌+◌, ◌<◌, List, [], ◌∷◌, ◌++◌, length, get_or, Option, Some, None, Result, Ok, Err, IfOk, ◌↔◌, ◌⊎◌, inl, inr, refl, sym, ap, subst, ◌∙◌, arith, rules, length-append}
use Rattle.std.proofs.lemmas.Bool.{cases_eq}
use Rattle.std.proofs.lemmas.List.{get_or_append_left, get_or_push, length_push}
use Rattle.std.specs.List.{Contains}
use Rattle.std.specs.List.Sorted.{IsStrictlyIncreasing}
use Rattle.focus_spec.specs.Younger.{with_number}
use Rattle.focus_spec.proofs.WithNumber.{with_number_from_members}
use Rattle.focus_plain.specs.declared.reach.Reach.{Reach}
use Rattle.focus_plain.specs.Entries.{with_more, set_at, reached_set, IsIndex, IsReachable}
use Rattle.focus_plain.specs.Search.{IsLonger, Grows, AreRising}

-- a set with a new number is the list with it
pub longer-value : {E : Type 0} (result : Result (List ℕ) E) (number : ℕ) (set : List ℕ) → IsStrictlyIncreasing set
    → IfOk result (λ s. IsStrictlyIncreasing s)
    → IfOk result (λ s. (y : ℕ) → Contains s y ↔ (Contains set y ⊎ (y ≡ number)))
    → IfOk result (λ s. s ≡ with_number number set)
longer-value (Ok s) number set rising longer_rising members =
    with_number_from_members number set s rising longer_rising members
longer-value (Err e) number set rising longer_rising members = search rules

-- the new set is what was reached
pub keeps-value : (sets new : List (List ℕ)) (reached : Option Reach) (r : Reach) (number kept : ℕ) (longer : List ℕ)
    → reached ≡ Some r → r.more ≡ Some number
    → longer ≡ with_number number (get_or sets r.index []) → new ≡ sets ++ longer ∷ [] → length sets ≡ kept
    → set_at new (Some kept) ≡ reached_set sets reached
keeps-value sets new reached r number kept longer reached_is more_is longer_is new_is last =
    ap (λ (s : List (List ℕ)). Some (get_or s kept [])) new_is
    ∙ ap Some (get_or_push sets longer [] kept last ∙ longer_is)
    ∙ sym (ap (reached_set sets) reached_is ∙ ap (λ more. Some (with_more more (get_or sets r.index []))) more_is)

-- all sets rise
pub rising-more : (sets new : List (List ℕ)) (longer : List ℕ) → AreRising sets → IsStrictlyIncreasing longer
    → new ≡ sets ++ longer ∷ [] → AreRising new
rising-more sets new longer rising longer_rising new_is index inside =
    let long : length new ≡ length sets + 1 = ap length new_is ∙ length_push sets longer in
    let P : List ℕ → Type 0 = λ s. IsStrictlyIncreasing s in
    subst (λ (s : List (List ℕ)). IsStrictlyIncreasing (get_or s index [])) (sym new_is)
    (elim (cases_eq (length sets) index) [
      | inl last ↦ subst P (sym (get_or_push sets longer [] index last)) longer_rising
      | inr other ↦
          let old : index < length sets = omega arith in
          subst P (sym (get_or_append_left sets (longer ∷ []) [] index old)) (rising index old)
    ])

-- what the table gave it gives still
pub set_at-longer : (sets new : List (List ℕ)) (index : Option ℕ) → IsLonger sets new → IsIndex sets index
    → set_at new index ≡ set_at sets index
set_at-longer sets new None longer inside = refl
set_at-longer sets new (Some index) longer inside =
    ap Some (ap (λ (s : List (List ℕ)). get_or s index []) longer.1 ∙ get_or_append_left sets longer.0 [] index inside)

-- and what is reached
pub reached-longer : (sets new : List (List ℕ)) (reach : Option Reach) → IsLonger sets new → IsReachable sets reach
    → reached_set new reach ≡ reached_set sets reach
reached-longer sets new None longer inside = refl
reached-longer sets new (Some reach) longer inside =
    ap (λ (s : List ℕ). Some (with_more reach.more s)) (ap (λ (s : List (List ℕ)). get_or s reach.index []) longer.1
    ∙ get_or_append_left sets longer.0 [] reach.index inside)

-- indices stay indices
pub index-longer : (sets new : List (List ℕ)) (index : Option ℕ) → IsLonger sets new → IsIndex sets index
    → IsIndex new index
index-longer sets new None longer inside = tt
index-longer sets new (Some index) longer inside =
    omega (arith, inside, ap length longer.1, length-append sets longer.0)

-- a table that grows is longer
pub longer-grows : {X : Type 0} (xs ys : List X) → Grows xs ys → IsLonger xs ys
longer-grows xs ys grows = (grows.0, grows.2)
