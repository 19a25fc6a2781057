-- A walk along sets, each of which has a property.
use Rattle.std.proofs.Common.{◌≡◌, ℕ, ◌+◌, ◌<◌, ◌≤◌, List, length, take, take_all, get_or, Contains, inl, inr, sym, subst}
use Rattle.plain_family.proofs.Walk.{Contains-more}

-- each of the first i sets has P
abbrev pub EachHas : (List ℕ → Type 0) → List (List ℕ) → ℕ → Type 0
EachHas P sets i = (s : List ℕ) → Contains (take i sets) s → P s

-- one set more
pub EachHas-more : (P : List ℕ → Type 0) (sets : List (List ℕ)) (i : ℕ) (set : List ℕ) → i < length sets
    → set ≡ get_or sets i set
    → EachHas P sets i → P set → EachHas P sets (i + 1)
EachHas-more P sets i set inside same before has s there = elim ((Contains-more sets i set s inside same).0 there) [
  | inl earlier ↦ before s earlier
  | inr last ↦ subst P (sym last) has
]

-- all sets
pub EachHas-all : (P : List ℕ → Type 0) (sets : List (List ℕ)) (i : ℕ) → length sets ≤ i → EachHas P sets i
    → (s : List ℕ) → Contains sets s → P s
EachHas-all P sets i all each s there = each s
    (subst (λ (xs : List (List ℕ)). Contains xs s) (sym (take_all i sets all)) there)
