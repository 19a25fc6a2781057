-- Numbers that a loop keeps, rising.
use Rattle.std.proofs.Common.{◌≡◌, ℕ, ◌+◌, ◌<◌, inl, inr, List, [], ◌∷◌, ◌++◌, length, get_or, sym, subst, arith}
use Rattle.std.proofs.lemmas.Bool.{cases_eq}
use Rattle.std.proofs.lemmas.List.{get_or_append_left, get_or_push, length_push}
use Rattle.std.proofs.lemmas.List.Elements.{Contains-push, Contains-push_cases, Contains-append_left, Contains-get_or}
use Rattle.std.specs.List.{Contains}
use Rattle.std.specs.List.Sorted.{IsStrictlyIncreasing}
use Rattle.age_exists.specs.Those.{AreThose}

-- a list that rises does so with a greater number at its end
rising-push : (xs : List ℕ) (last : ℕ) → IsStrictlyIncreasing xs → ((n : ℕ) → Contains xs n → n < last)
    → IsStrictlyIncreasing (xs ++ last ∷ [])
rising-push xs last rising below k inside =
    let long = length_push xs last in
    let here : get_or (xs ++ last ∷ []) k 0 ≡ get_or xs k 0 =
    get_or_append_left xs (last ∷ []) 0 k (omega (arith, long, inside)) in
    elim (cases_eq (length xs) (k + 1)) [
      | inl end ↦
          let at : get_or (xs ++ last ∷ []) (k + 1) 0 ≡ last = get_or_push xs last 0 (k + 1) end in
          omega (arith, here, at, below (get_or xs k 0) (Contains-get_or xs k 0 (omega (arith, long, inside))))
      | inr before ↦
          let next : get_or (xs ++ last ∷ []) (k + 1) 0 ≡ get_or xs (k + 1) 0 =
          get_or_append_left xs (last ∷ []) 0 (k + 1) (omega (arith, long, inside, before)) in
          omega (arith, here, next, rising k (omega (arith, long, inside, before)))
    ]

module _ (P : ℕ → Type 0) (count : ℕ) (numbers : List ℕ) (are : AreThose P count numbers) where
  -- a number that has the property is one more
  pub those_more : P count → AreThose P (count + 1) (numbers ++ count ∷ [])
  those_more has = record {
    rising = rising-push numbers count are.rising (λ n there. ((are.members n).0 there).0);
    members = λ n. (
      λ there. elim (Contains-push_cases numbers count n there) [
        | inl before ↦ let is = (are.members n).0 before in (omega (arith, is.0), is.1)
        | inr last ↦ (omega (arith, last), subst P last has)
      ],
      λ is. elim (cases_eq count n) [
        | inl last ↦ subst (Contains (numbers ++ count ∷ [])) last (Contains-push numbers count)
        | inr before ↦
            Contains-append_left numbers (count ∷ []) n ((are.members n).1 (omega (arith, is.0, before), is.1))
      ],
    );
  }

  -- and one that hasn't is none
  pub those_kept : (P count → ⊥) → AreThose P (count + 1) numbers
  those_kept lacks = record {
    rising = are.rising;
    members = λ n. (
      λ there. let is = (are.members n).0 there in (omega (arith, is.0), is.1),
      λ is. elim (cases_eq count n) [
        | inl last ↦ absurd (lacks (subst P (sym last) is.1))
        | inr before ↦ (are.members n).1 (omega (arith, is.0, before), is.1)
      ],
    );
  }
