-- Which blocks stand before one in a recency list.
use Rattle.std.proofs.Common.{◌≡◌, ℕ, zero, suc, true, false, ◌==◌, if◌then◌else◌, List, [], ◌∷◌, take, Option, Some, None, option_map, refl, sym, ap, ◌∙◌, inl, inr, arith, eq-eqb, lt-ltb}
use Rattle.std.proofs.lemmas.Bool.{cases_eq, ne_eqb}
use Rattle.std.proofs.lemmas.Bool.Decides.{nat_tests}
use Rattle.cache_spec.specs.Lru.{is_in}
use Rattle.cache_spec.proofs.Distinct.{others}
use Rattle.cache_spec.proofs.Others.{others-at, others-cons}
use Rattle.focus_spec.specs.Younger.{is_small}

-- the blocks that stand before this one; None where it is not there
abbrev pub before : ℕ → List ℕ → Option (List ℕ)
before block [] = None
before block (other ∷ blocks) =
    if other == block then Some [] else option_map (λ set. other ∷ set) (before block blocks)

-- no block stands before the first one
pub before-first : (block other : ℕ) (blocks : List ℕ) → (other == block) ≡ true
    → before block (other ∷ blocks) ≡ Some []
before-first block other blocks same = simp same

-- another block stands before all others
pub before-cons : (block other : ℕ) (blocks : List ℕ) → (other == block) ≡ false
    → before block (other ∷ blocks) ≡ option_map (λ set. other ∷ set) (before block blocks)
before-cons block other blocks apart = simp apart

-- nothing has fewer than no blocks
small-none : (set : Option (List ℕ)) → is_small 0 set ≡ false
small-none None = refl
small-none (Some set) = grind (arith, nat_tests)

-- one more block and one more way
small-more : (n block : ℕ) (set : Option (List ℕ)) → is_small (suc n) (option_map (λ s. block ∷ s) set) ≡ is_small n set
small-more n block None = refl
small-more n block (Some set) = grind (arith, nat_tests)

-- a block is among the first n exactly where fewer than n stand before it
pub is_in-before : (n block : ℕ) (blocks : List ℕ) → is_in (take n blocks) block ≡ is_small n (before block blocks)
is_in-before zero block blocks = sym (small-none (before block blocks))
is_in-before (suc n) block [] = refl
is_in-before (suc n) block (other ∷ blocks) = elim (cases_eq other block) [
  | inl same ↦
      let at = eq-eqb other block same in
      let back = eq-eqb block other (sym same) in
      simp back (sym (lt-ltb 0 (suc n) (omega arith)) ∙ ap (λ o. is_small (suc n) o)
      (sym (before-first block other blocks at)))
  | inr apart ↦
      let unlike = ne_eqb other block apart in
      let back = ne_eqb block other (λ same. apart (sym same)) in
      simp back (
      is_in-before n block blocks
      ∙ sym (small-more n other (before block blocks))
      ∙ ap (λ o. is_small (suc n) o) (sym (before-cons block other blocks unlike))
      )
]

-- the block itself is left out of those before another
map-at : (other first : ℕ) (set : Option (List ℕ)) → (first == other) ≡ true
    → option_map (λ s. others s other) set ≡ option_map (λ s. others s other) (option_map (λ s. first ∷ s) set)
map-at other first None same = refl
map-at other first (Some set) same = ap (λ s. Some s) (sym (others-at other first set same))

-- another block stays among those before
map-cons : (other first : ℕ) (set : Option (List ℕ)) → (first == other) ≡ false
    → option_map (λ s. first ∷ s) (option_map (λ s. others s other) set)
    ≡ option_map (λ s. others s other) (option_map (λ s. first ∷ s) set)
map-cons other first None apart = refl
map-cons other first (Some set) apart = ap (λ s. Some s) (sym (others-cons other first set apart))

-- which of the others stand before another block
pub before-others : (block other : ℕ) (blocks : List ℕ) → (other ≡ block → ⊥)
    → before block (others blocks other) ≡ option_map (λ set. others set other) (before block blocks)
before-others block other [] apart = refl
before-others block other (first ∷ blocks) apart = elim (cases_eq first other) [
  | inl same ↦
      let at = eq-eqb first other same in
      let unlike = ne_eqb first block (λ is. apart (sym same ∙ is)) in
      ap (λ s. before block s) (others-at other first blocks at)
      ∙ before-others block other blocks apart
      ∙ map-at other first (before block blocks) at
      ∙ ap (λ o. option_map (λ set. others set other) o) (sym (before-cons block first blocks unlike))
  | inr differ ↦
      let unlike = ne_eqb first other differ in
      ap (λ s. before block s) (others-cons other first blocks unlike)
      ∙ elim (cases_eq first block) [
        | inl same ↦
            let at = eq-eqb first block same in
            before-first block first (others blocks other) at
            ∙ ap (λ o. option_map (λ set. others set other) o) (sym (before-first block first blocks at))
        | inr far ↦
            let away = ne_eqb first block far in
            before-cons block first (others blocks other) away
            ∙ ap (λ o. option_map (λ set. first ∷ set) o) (before-others block other blocks apart)
            ∙ map-cons other first (before block blocks) unlike
            ∙ ap (λ o. option_map (λ set. others set other) o) (sym (before-cons block first blocks away))
      ]
]
