-- What is reached after a fetch of another block.
use Rattle.std.proofs.Common.{◌≡◌, ℕ, ◌+◌, ◌<◌, ◌≤◌, ◌⊎◌, inl, inr, List, [], length, get_or, Option, Some, None, sym, ap, subst, ◌∙◌, arith}
use Rattle.std.specs.List.{Contains}
use Rattle.std.specs.List.Sorted.{IsStrictlyIncreasing}
use Rattle.focus_spec.specs.Younger.{with_number}
use Rattle.focus_spec.proofs.WithNumber.{Contains-with_number, length-with_number, with_number-present}
use Rattle.focus_plain.specs.declared.reach.Reach.{Reach}
use Rattle.focus_plain.specs.Cut.{cut, IsBelow}
use Rattle.focus_plain.specs.Entries.{with_more, set_at, reached_set}
use Rattle.focus_plain.proofs.Order.{cut-small, cut-large}

-- a number that is there already changes nothing
pub cut-present : (ways other : ℕ) (set : List ℕ) → IsStrictlyIncreasing set → Contains set other → length set < ways
    → Some set ≡ cut ways (Some (with_number other set))
cut-present ways other set rising there small =
    sym (cut-small ways set small) ∙ ap (λ s. cut ways (Some s)) (sym (with_number-present other set rising there))

-- a new number makes the set longer by one
pub cut-longer : (ways other : ℕ) (set : List ℕ) → (Contains set other → ⊥) → length set + 1 < ways
    → Some (with_number other set) ≡ cut ways (Some (with_number other set))
cut-longer ways other set new small =
    sym (cut-small ways (with_number other set) (omega (arith, length-with_number other set new)))

-- perhaps too long
pub cut-too_long : (ways other : ℕ) (set : List ℕ) → (Contains set other → ⊥) → ways ≤ length set + 1
    → None ≡ cut ways (Some (with_number other set))
cut-too_long ways other set new large =
    sym (cut-large ways (with_number other set) (omega (arith, length-with_number other set new)))

-- what is in the set, or is the one more, is in both together
pub within_more : (numbers others : List ℕ) (more : Option ℕ)
    → ((x : ℕ) → Contains numbers x → Contains others x ⊎ (more ≡ Some x))
    → IsBelow (Some numbers) (Some (with_more more others))
within_more numbers others None all = λ x there. elim (all x there) [ inl old ↦ old | inr is ↦ absurd (cc) ]
within_more numbers others (Some one) all = λ x there. elim (all x there) [
  | inl old ↦ (Contains-with_number one others x).1 (inl old)
  | inr is ↦ (Contains-with_number one others x).1 (inr (let same : one ≡ x = cc in sym same))
]

-- the set alone
pub within_alone : (numbers others : List ℕ) → ((x : ℕ) → Contains numbers x → Contains others x ⊎ (None ≡ Some x))
    → IsBelow (Some numbers) (Some others)
within_alone numbers others all = λ x there. elim (all x there) [ inl old ↦ old | inr is ↦ absurd (cc) ]

-- the set is below itself with one more number
pub below_more : (set : List ℕ) (more : Option ℕ) → IsBelow (Some set) (Some (with_more more set))
below_more set None = λ x there. there
below_more set (Some one) = λ x there. (Contains-with_number one set x).1 (inl there)

-- with one more number that is there, the set is still below
pub more_within : (set larger : List ℕ) (one : ℕ) → Contains larger one → IsBelow (Some set) (Some larger)
    → IsBelow (Some (with_number one set)) (Some larger)
more_within set larger one has within = λ x there. elim ((Contains-with_number one set x).0 there) [
  | inl old ↦ within x old
  | inr is ↦ subst (Contains larger) (sym is) has
]

-- what is reached with a set of the table is above that set
pub below-same : (sets : List (List ℕ)) (younger : Option ℕ) (reach : Option Reach) (index : ℕ) (r : Reach)
    → younger ≡ Some index → reach ≡ Some r → index ≡ r.index
    → IsBelow (set_at sets younger) (reached_set sets reach)
below-same sets younger reach index r younger_is reach_is same =
    let at : set_at sets younger ≡ Some (get_or sets r.index []) = ap (set_at sets) (younger_is ∙ ap Some same) in
    subst (IsBelow (set_at sets younger)) (sym (ap (reached_set sets) reach_is))
    (subst (λ (o : Option (List ℕ)). IsBelow o (Some (with_more r.more (get_or sets r.index [])))) (sym at)
    (below_more (get_or sets r.index []) r.more))

-- with a number that the set has, the set is still above
pub above-more : (sets : List (List ℕ)) (younger : Option ℕ) (reach : Option Reach) (index : ℕ) (r : Reach) (number : ℕ)
    → younger ≡ Some index → reach ≡ Some r → r.more ≡ Some number
    → Contains (get_or sets index []) number → IsBelow (Some (get_or sets r.index [])) (Some (get_or sets index []))
    → IsBelow (reached_set sets reach) (set_at sets younger)
above-more sets younger reach index r number younger_is reach_is more_is has within =
    let at : reached_set sets reach ≡ Some (with_number number (get_or sets r.index [])) =
    ap (reached_set sets) reach_is ∙ ap (λ more. Some (with_more more (get_or sets r.index []))) more_is in
    subst (IsBelow (reached_set sets reach)) (sym (ap (set_at sets) younger_is))
    (subst (λ (o : Option (List ℕ)). IsBelow o (Some (get_or sets index []))) (sym at)
    (more_within (get_or sets r.index []) (get_or sets index []) number has within))
