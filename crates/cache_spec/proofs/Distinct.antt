-- Distinct blocks stay distinct after a fetch.
use Rattle.std.proofs.Common.{◌≡◌, ℕ, zero, suc, not, ◌&&◌, ◌==◌, IsFalse, List, [], ◌∷◌, take, filter, refl, arith}
use Rattle.std.proofs.lemmas.Grind.{common_steps}
use Rattle.std.proofs.lemmas.Bool.Decides.{nat_tests}
use Rattle.cache_spec.specs.Lru.{is_in}
use Rattle.cache_spec.specs.Distinct.{AreDistinct}

-- the blocks other than this one
abbrev pub others : List ℕ → ℕ → List ℕ
others blocks block = filter (λ other. not (other == block)) blocks

-- where the block is not there, all blocks are others
pub others-absent : (block : ℕ) (blocks : List ℕ) → IsFalse (is_in blocks block) → others blocks block ≡ blocks
others-absent block [] absent = refl
others-absent block (other ∷ blocks) absent = grind (arith, nat_tests, common_steps, others-absent block blocks)

-- which blocks are others
pub is_in-others : (block kept : ℕ) (blocks : List ℕ)
    → is_in (others blocks block) kept ≡ (not (kept == block) && is_in blocks kept)
is_in-others block kept [] = grind (arith, nat_tests)
is_in-others block kept (other ∷ blocks) = grind (arith, nat_tests, common_steps, is_in-others block kept blocks)

-- the others of distinct blocks are distinct
others-distinct : (block : ℕ) (blocks : List ℕ) → AreDistinct blocks → AreDistinct (others blocks block)
others-distinct block [] distinct = tt
others-distinct block (other ∷ blocks) distinct =
    grind (arith, nat_tests, common_steps, is_in-others block other blocks, others-distinct block blocks distinct.1)

-- distinct blocks are distinct after a fetch
pub fetched-distinct : (block : ℕ) (blocks : List ℕ) → AreDistinct blocks → AreDistinct (block ∷ others blocks block)
fetched-distinct block blocks distinct =
    (grind (arith, nat_tests, is_in-others block block blocks), others-distinct block blocks distinct)

-- a block that is not there is not among the first n
pub is_in-take : (n block : ℕ) (blocks : List ℕ) → IsFalse (is_in blocks block) → IsFalse (is_in (take n blocks) block)
is_in-take zero block blocks absent = refl
is_in-take (suc n) block [] absent = refl
is_in-take (suc n) block (other ∷ blocks) absent = grind (arith, nat_tests, common_steps, is_in-take n block blocks)
