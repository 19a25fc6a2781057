-- A walk along sets that adds some of them to a family.
use Rattle.std.proofs.Common.{◌≡◌, ℕ, ◌+◌, ◌<◌, ◌≤◌, ◌↔◌, ◌⊎◌, inl, inr, List, [], ◌∷◌, ◌++◌, length, take, take_all, get_or, Contains, refl, sym, ap, subst, ◌∙◌, arith}
use Rattle.std.proofs.lemmas.List.{take_more}
use Rattle.plain_family.specs.Family.{IsWith}
use Rattle.plain_family.proofs.Smaller.{IsWith-unique}
use Rattle.std.proofs.lemmas.List.Elements.{Contains-append_left, Contains-push, Contains-push_cases}

-- what the first sets contain with one set more
pub Contains-more : (sets : List (List ℕ)) (i : ℕ) (set s : List ℕ) → i < length sets → set ≡ get_or sets i set
    → Contains (take (i + 1) sets) s ↔ (Contains (take i sets) s ⊎ (s ≡ set))
Contains-more sets i set s inside same =
    let longer : take (i + 1) sets ≡ take i sets ++ set ∷ [] =
    take_more sets i set inside ∙ ap (λ t. take i sets ++ t ∷ []) (sym same) in (
      λ there. elim (Contains-push_cases (take i sets) set s (subst (λ xs. Contains xs s) longer there))
          [ inl before ↦ inl before | inr last ↦ inr (sym last) ],
      λ either. subst (λ xs. Contains xs s) (sym longer) (elim either [
        | inl before ↦ Contains-append_left (take i sets) (set ∷ []) s before
        | inr last ↦ subst (Contains (take i sets ++ set ∷ [])) (sym last) (Contains-push (take i sets) set)
      ]),
    )

-- the family has what it had, and the first i sets
abbrev pub Adds : List (List ℕ) → List (List ℕ) → ℕ → List (List ℕ) → Type 0
Adds old sets i new = (s : List ℕ) → Contains new s ↔ (Contains old s ⊎ Contains (take i sets) s)

-- one set more
pub Adds-more : (old sets : List (List ℕ)) (i : ℕ) (now new : List (List ℕ)) (set : List ℕ) → i < length sets
    → set ≡ get_or sets i set
    → Adds old sets i now → ((s : List ℕ) → Contains new s ↔ (Contains now s ⊎ (s ≡ set))) → Adds old sets (i + 1) new
Adds-more old sets i now new set inside same before step s =
    let more = Contains-more sets i set s inside same in (
      λ there. elim ((step s).0 there) [
        | inl earlier ↦ elim ((before s).0 earlier) [ inl first ↦ inl first | inr walked ↦ inr (more.1 (inl walked)) ]
        | inr last ↦ inr (more.1 (inr last))
      ],
      λ either. elim either [
        | inl first ↦ (step s).1 (inl ((before s).1 (inl first)))
        | inr walked ↦ elim (more.0 walked) [
          | inl earlier ↦ (step s).1 (inl ((before s).1 (inr earlier)))
          | inr last ↦
              (step s).1 (inr last)
        ]
      ],
    )

-- the family has those of the first i sets that have P
abbrev pub Keeps : (List ℕ → Type 0) → List (List ℕ) → ℕ → List (List ℕ) → Type 0
Keeps P sets i new = (s : List ℕ) → Contains new s ↔ (Contains (take i sets) s × P s)

-- one set more, which has P
pub Keeps-more : (P : List ℕ → Type 0) (sets : List (List ℕ)) (i : ℕ) (now new : List (List ℕ)) (set : List ℕ)
    → i < length sets → set ≡ get_or sets i set
    → Keeps P sets i now → P set → ((s : List ℕ) → Contains new s ↔ (Contains now s ⊎ (s ≡ set)))
    → Keeps P sets (i + 1) new
Keeps-more P sets i now new set inside same before has step s =
    let more = Contains-more sets i set s inside same in (
      λ there. elim ((step s).0 there) [
        | inl earlier ↦ (more.1 (inl ((before s).0 earlier).0), ((before s).0 earlier).1)
        | inr last ↦ (more.1 (inr last), subst P (sym last) has)
      ],
      λ both. elim (more.0 both.0) [
        | inl earlier ↦ (step s).1 (inl ((before s).1 (earlier, both.1)))
        | inr last ↦ (step s).1 (inr last)
      ],
    )

-- one set more, which lacks P
pub Keeps-same : (P : List ℕ → Type 0) (sets : List (List ℕ)) (i : ℕ) (now : List (List ℕ)) (set : List ℕ)
    → i < length sets → set ≡ get_or sets i set
    → Keeps P sets i now → (P set → ⊥) → Keeps P sets (i + 1) now
Keeps-same P sets i now set inside same before lacks s =
    let more = Contains-more sets i set s inside same in (
      λ there. (more.1 (inl ((before s).0 there).0), ((before s).0 there).1),
      λ both. elim (more.0 both.0) [
        | inl earlier ↦ (before s).1 (earlier, both.1)
        | inr last ↦ absurd (lacks (subst P last both.1))
      ],
    )

-- after the last set
pub Adds-all : (old sets : List (List ℕ)) (i : ℕ) (new : List (List ℕ)) → length sets ≤ i → Adds old sets i new
    → (s : List ℕ) → Contains new s ↔ (Contains old s ⊎ Contains sets s)
Adds-all old sets i new all before =
    subst (λ xs. (s : List ℕ) → Contains new s ↔ (Contains old s ⊎ Contains xs s)) (take_all i sets all) before

-- after the last set
pub Keeps-all : (P : List ℕ → Type 0) (sets : List (List ℕ)) (i : ℕ) (new : List (List ℕ)) → length sets ≤ i
    → Keeps P sets i new
    → (s : List ℕ) → Contains new s ↔ (Contains sets s × P s)
Keeps-all P sets i new all before = subst (λ xs. (s : List ℕ) → Contains new s ↔ (Contains xs s × P s))
    (take_all i sets all) before

-- what has the sets of one family, and then those of another
pub Contains-both : (none first second mid new : List (List ℕ)) → none ≡ []
    → ((s : List ℕ) → Contains mid s ↔ (Contains none s ⊎ Contains first s))
    → ((s : List ℕ) → Contains new s ↔ (Contains mid s ⊎ Contains second s))
    → (s : List ℕ) → Contains new s ↔ (Contains first s ⊎ Contains second s)
Contains-both none first second mid new nothing begun ended s = (
  λ there. elim ((ended s).0 there) [
    | inl earlier ↦ elim ((begun s).0 earlier) [
      | inl missing ↦ let none_there : Contains [] s =
          subst (λ xs. Contains xs s) nothing missing in absurd (omega (arith, none_there.1))
      | inr first_there ↦ inl first_there
    ]
    | inr second_there ↦ inr second_there
  ],
  λ either. elim either [
    | inl first_there ↦ (ended s).1 (inl ((begun s).1 (inr first_there)))
    | inr second_there ↦ (ended s).1 (inr second_there)
  ],
)

-- the family has the first i sets, with x added to each
abbrev pub Grows : ℕ → List (List ℕ) → ℕ → List (List ℕ) → Type 0
Grows x sets i new = (s : List ℕ) → Contains new s ↔ ((t : List ℕ) × Contains (take i sets) t × IsWith x t s)

-- one set more
pub Grows-more : (x : ℕ) (sets : List (List ℕ)) (i : ℕ) (now new : List (List ℕ)) (set grown : List ℕ) → i < length sets
    → set ≡ get_or sets i set
    → Grows x sets i now → IsWith x set grown → ((s : List ℕ) → Contains new s ↔ (Contains now s ⊎ (s ≡ grown)))
    → Grows x sets (i + 1) new
Grows-more x sets i now new set grown inside same before added step s = (
  λ there. elim ((step s).0 there) [
    | inl earlier ↦
        let from = (before s).0 earlier in
        (from.0, (Contains-more sets i set from.0 inside same).1 (inl from.1), from.2)
    | inr last ↦ (set, (Contains-more sets i set set inside same).1 (inr refl), subst (IsWith x set) (sym last) added)
  ],
  λ from. elim ((Contains-more sets i set from.0 inside same).0 from.1) [
    | inl earlier ↦ (step s).1 (inl ((before s).1 (from.0, earlier, from.2)))
    | inr last ↦ (step s).1 (inr (IsWith-unique x set s grown (subst (λ t. IsWith x t s) last from.2) added))
  ],
)

-- after the last set
pub Grows-all : (x : ℕ) (sets : List (List ℕ)) (i : ℕ) (new : List (List ℕ)) → length sets ≤ i → Grows x sets i new
    → (s : List ℕ) → Contains new s ↔ ((t : List ℕ) × Contains sets t × IsWith x t s)
Grows-all x sets i new all before = subst (λ xs. (s : List ℕ) → Contains new s
    ↔ ((t : List ℕ) × Contains xs t × IsWith x t s)) (take_all i sets all) before

-- none of the first i sets has P
abbrev pub NoneHas : (List ℕ → Type 0) → List (List ℕ) → ℕ → Type 0
NoneHas P sets i = (t : List ℕ) → Contains (take i sets) t → P t → ⊥

-- one set more, which lacks P
pub NoneHas-more : (P : List ℕ → Type 0) (sets : List (List ℕ)) (i : ℕ) (set : List ℕ) → i < length sets
    → set ≡ get_or sets i set
    → NoneHas P sets i → (P set → ⊥) → NoneHas P sets (i + 1)
NoneHas-more P sets i set inside same before lacks t there has =
    elim ((Contains-more sets i set t inside same).0 there) [
      | inl earlier ↦ before t earlier has
      | inr last ↦ lacks (subst P last has)
    ]

-- after the last set
pub NoneHas-all : (P : List ℕ → Type 0) (sets : List (List ℕ)) (i : ℕ) → length sets ≤ i → NoneHas P sets i
    → (t : List ℕ) → Contains sets t → P t → ⊥
NoneHas-all P sets i all before = subst (λ xs. (t : List ℕ) → Contains xs t → P t → ⊥) (take_all i sets all) before
