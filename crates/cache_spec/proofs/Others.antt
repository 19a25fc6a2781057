-- The other blocks of a list, and of a list that is cut.
use Rattle.std.proofs.Common.{◌≡◌, ℕ, zero, suc, ◌+◌, true, false, cond, ◌==◌, IsFalse, List, [], ◌∷◌, length, take, refl, sym, ap, subst, ◌∙◌, take-take, le_refl, inl, inr, arith, eq-eqb}
use Rattle.std.proofs.lemmas.Grind.{common_steps}
use Rattle.std.proofs.lemmas.Bool.{cases_eq, ne_eqb}
use Rattle.std.proofs.lemmas.Bool.Decides.{nat_tests}
use Rattle.cache_spec.specs.Lru.{is_in}
use Rattle.cache_spec.specs.Distinct.{AreDistinct}
use Rattle.cache_spec.proofs.Distinct.{others, others-absent, is_in-take}

-- how many others there are
pub length-others : (block : ℕ) (blocks : List ℕ) → AreDistinct blocks
    → length (others blocks block) + cond (is_in blocks block) 1 0 ≡ length blocks
length-others block [] distinct = refl
length-others block (other ∷ blocks) distinct =
    grind (arith, nat_tests, common_steps, others-absent block blocks, length-others block blocks distinct.1)

-- the others after the block itself
pub others-at : (block other : ℕ) (blocks : List ℕ) → (other == block) ≡ true
    → others (other ∷ blocks) block ≡ others blocks block
others-at block other blocks same = simp same

-- another block is one of the others
pub others-cons : (block other : ℕ) (blocks : List ℕ) → (other == block) ≡ false
    → others (other ∷ blocks) block ≡ other ∷ others blocks block
others-cons block other blocks apart = simp apart

-- where the block is not there, a cut list and the whole have the same first n others
take-absent : (n block : ℕ) (blocks : List ℕ) → IsFalse (is_in blocks block)
    → take n (others (take n blocks) block) ≡ take n (others blocks block)
take-absent n block blocks absent =
    ap (λ s. take n s) (others-absent block (take n blocks) (is_in-take n block blocks absent))
    ∙ take-take n n blocks (le_refl n)
    ∙ sym (ap (λ s. take n s) (others-absent block blocks absent))

-- of distinct blocks that are cut to one more than n, the first n others are those of all blocks
pub take-others : (n block : ℕ) (blocks : List ℕ) → AreDistinct blocks
    → take n (others (take (suc n) blocks) block) ≡ take n (others blocks block)
take-others zero block blocks distinct = refl
take-others (suc n) block [] distinct = refl
take-others (suc n) block (other ∷ blocks) distinct = elim (cases_eq other block) [
  | inl same ↦
      let at = eq-eqb other block same in
      ap (λ s. take (suc n) s) (others-at block other (take (suc n) blocks) at)
      ∙ take-absent (suc n) block blocks (subst (λ (b : ℕ). IsFalse (is_in blocks b)) same distinct.0)
      ∙ ap (λ s. take (suc n) s) (sym (others-at block other blocks at))
  | inr apart ↦
      let unlike = ne_eqb other block apart in
      ap (λ s. take (suc n) s) (others-cons block other (take (suc n) blocks) unlike)
      ∙ ap (λ s. other ∷ s) (take-others n block blocks distinct.1)
      ∙ ap (λ s. take (suc n) s) (sym (others-cons block other blocks unlike))
]
