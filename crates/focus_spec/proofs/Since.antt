-- Which blocks a younger set has: those that were fetched since its own block's last fetch.
use Rattle.std.proofs.Common.{◌≡◌, ℕ, ◌↔◌, List, [], ◌∷◌, ◌++◌, Contains, Option, Some, None, option_map, refl, sym, ap, subst, ◌∙◌, inl, inr, arith}
use Rattle.std.proofs.lemmas.Bool.{cases_eq}
use Rattle.std.proofs.lemmas.List.Elements.{Contains-append_right}
use Rattle.std.proofs.lemmas.Option.{none-some}
use Rattle.set_list.specs.Rising.{Contains-cons}
use Rattle.focus_spec.specs.Younger.{with_number, after, after_all, younger}
use Rattle.focus_spec.proofs.WithNumber.{Contains-with_number}
use Rattle.focus_spec.proofs.Renamed.{after-own, after-other}

-- two values are the same where each is something
same_some : {A : Type 0} (a b : A) → Some a ≡ Some b → a ≡ b
same_some a b is = cc (is)

-- what is mapped to something
mapped : (f : List ℕ → List ℕ) (o : Option (List ℕ)) (set : List ℕ) → option_map f o ≡ Some set
    → (inner : List ℕ) × (o ≡ Some inner) × (f inner ≡ set)
mapped f None set is = absurd (none-some set is)
mapped f (Some inner) set is = (inner, refl, same_some (f inner) set is)

-- what is mapped to nothing
mapped_none : (f : List ℕ → List ℕ) (o : Option (List ℕ)) → option_map f o ≡ None → o ≡ None
mapped_none f None is = refl
mapped_none f (Some inner) is = absurd (none-some (f inner) (sym is))

-- the set has the blocks of these fetches
abbrev HasBlocks : List (Option ℕ) → ℕ → List ℕ → Type 0
HasBlocks newer other set = Contains set other ↔ Contains newer (Some other)

-- the same with one more fetch
has-more : (x : ℕ) (newer : List (Option ℕ)) (other : ℕ) (set : List ℕ) → HasBlocks newer other set
    → HasBlocks (Some x ∷ newer) other (with_number x set)
has-more x newer other set has = (
  λ there. elim ((Contains-with_number x set other).0 there) [
    | inl old ↦ (Contains-cons (Some x) newer (Some other)).1 (inl (has.0 old))
    | inr same ↦ (Contains-cons (Some x) newer (Some other)).1 (inr (ap (λ n. Some n) same))
  ],
  λ there. elim ((Contains-cons (Some x) newer (Some other)).0 there) [
    | inl later ↦ (Contains-with_number x set other).1 (inl (has.1 later))
    | inr same ↦ (Contains-with_number x set other).1 (inr (same_some other x same))
  ],
)

-- where the first set of a block is empty and the block isn't fetched, its set has the blocks that are fetched
pub after_all-fetched : (block : ℕ) (fetches : List (Option ℕ)) → (Contains fetches (Some block) → ⊥)
    → (set : List ℕ) × (after_all block fetches (Some []) ≡ Some set) × ((other : ℕ) → HasBlocks fetches other set)
after_all-fetched block [] apart =
    ([], refl, λ other. (λ there. absurd (omega (arith, there.1)), λ there. absurd (omega (arith, there.1))))
after_all-fetched block (None ∷ earlier) apart =
    let later = λ (b : ℕ) (there : Contains earlier (Some b)).
    Contains-append_right (None ∷ []) earlier (Some b) there in
    let rest = after_all-fetched block earlier (λ there. apart (later block there)) in (
      rest.0,
      rest.1,
      λ other. (
        λ there. later other ((rest.2 other).0 there),
        λ there. elim ((Contains-cons None earlier (Some other)).0 there) [
          | inl beyond ↦ (rest.2 other).1 beyond
          | inr same ↦ absurd (none-some other (sym same))
        ],
      ),
    )
after_all-fetched block (Some x ∷ earlier) apart =
    let differ : x ≡ block → ⊥ = λ same. apart (0, omega arith, ap (λ n. Some n) same) in
    let rest = after_all-fetched block earlier
    (λ there. apart (Contains-append_right (Some x ∷ []) earlier (Some block) there)) in (
      with_number x rest.0,
      after-other block x (after_all block earlier (Some [])) differ ∙ ap (option_map (with_number x)) rest.1,
      λ other. has-more x earlier other rest.0 (rest.2 other),
    )

-- fetches after others
after_all-append : (block : ℕ) (newer older : List (Option ℕ)) (first : Option (List ℕ))
    → after_all block (newer ++ older) first ≡ after_all block newer (after_all block older first)
after_all-append block [] older first = refl
after_all-append block (fetch ∷ newer) older first = ap (after block fetch) (after_all-append block newer older first)

-- a younger set has the blocks that were fetched since its block's last fetch
pub younger-since : (block : ℕ) (newer older : List (Option ℕ)) (set : List ℕ) (other : ℕ)
    → (Contains newer (Some block) → ⊥) → younger block (newer ++ Some block ∷ older) ≡ Some set
    → Contains set other ↔ Contains newer (Some other)
younger-since block newer older set other apart is =
    let own = after-own block block (younger block older) refl in
    let fetched = after_all-fetched block newer apart in
    let known = sym (after_all-append block newer (Some block ∷ older) None ∙ ap (after_all block newer) own) ∙ is in
    subst (HasBlocks newer other) (same_some fetched.0 set (sym fetched.1 ∙ known)) (fetched.2 other)

-- where there is a younger set, it is the set from any first one
pub after_all-younger : (block : ℕ) (fetches : List (Option ℕ)) (first : Option (List ℕ)) (set : List ℕ)
    → younger block fetches ≡ Some set → after_all block fetches first ≡ Some set
after_all-younger block [] first set is = absurd (none-some set is)
after_all-younger block (None ∷ earlier) first set is = after_all-younger block earlier first set is
after_all-younger block (Some x ∷ earlier) first set is =
    let known = younger block earlier in
    let from_first = after_all block earlier first in
    elim (cases_eq x block) [
      | inl same ↦ after-own block x from_first same ∙ sym (after-own block x known same) ∙ is
      | inr differ ↦
          let inner = mapped (with_number x) known set (sym (after-other block x known differ) ∙ is) in
          after-other block x from_first differ
          ∙ ap (option_map (with_number x)) (after_all-younger block earlier first inner.0 inner.1)
          ∙ ap (λ s. Some s) inner.2
    ]

-- there is none exactly where its block was never fetched
pub younger-none : (block : ℕ) (fetches : List (Option ℕ))
    → (younger block fetches ≡ None) ↔ (Contains fetches (Some block) → ⊥)
younger-none block [] = (λ _ there. absurd (omega (arith, there.1)), λ _. refl)
younger-none block (None ∷ earlier) =
    let rest = younger-none block earlier in (
      λ is there. elim ((Contains-cons None earlier (Some block)).0 there) [
        | inl beyond ↦ rest.0 is beyond
        | inr same ↦ absurd (none-some block (sym same))
      ],
      λ absent. rest.1 (λ there. absent (Contains-append_right (None ∷ []) earlier (Some block) there)),
    )
younger-none block (Some x ∷ earlier) =
    let rest = younger-none block earlier in
    let known = younger block earlier in
    elim (cases_eq x block) [
      | inl same ↦ (
        λ is there. absurd (none-some [] (sym is ∙ after-own block x known same)),
        λ absent. absurd (absent (0, omega arith, ap (λ n. Some n) same)),
      )
      | inr differ ↦ (
        λ is there. elim ((Contains-cons (Some x) earlier (Some block)).0 there) [
          | inl beyond ↦ rest.0 (mapped_none (with_number x) known (sym (after-other block x known differ) ∙ is)) beyond
          | inr same ↦ differ (sym (same_some block x same))
        ],
        λ absent. after-other block x known differ
            ∙ ap (option_map (with_number x)) (rest.1 (λ there. absent
            (Contains-append_right (Some x ∷ []) earlier (Some block) there))),
      )
    ]
