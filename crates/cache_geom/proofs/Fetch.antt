-- What a fetch makes of the blocks of an LRU set.
use Rattle.std.proofs.Common.{◌≡◌, ℕ, ◌+◌, ◌-◌, ◌<◌, ◌≤◌, min, max, true, false, not, suc, zero, IsFalse, ◌==◌, nat_lt, List, [], ◌∷◌, ◌++◌, length, take, drop, replicate, refl, ap, sym, ◌∙◌, arith, rules, subst, inl, inr, eq-eqb, drop-drop, Option}
use Rattle.std.specs.List.{position, position_or_len}
use Rattle.std.specs.Option.{unwrap_or, is_some}
use Rattle.std.proofs.lemmas.Grind.{common_steps}
use Rattle.std.proofs.lemmas.Bool.Decides.{nat_tests}
use Rattle.std.proofs.lemmas.List.{places, same_lists, drop-replicate}
use Rattle.std.proofs.lemmas.Bool.{cases_eq, ne_eqb}
use Rattle.std.proofs.lemmas.List.Sums.{prefix_len-le-length}
use Rattle.cache_spec.specs.Lru.{touch, is_in}
use Rattle.cache_spec.specs.Distinct.{AreDistinct}
use Rattle.cache_spec.proofs.Distinct.{others, others-absent, fetched-distinct, is_in-take}
use Rattle.cache_geom.specs.LruSet.{IsSound}
use Rattle.cache_geom.specs.Slots.{length-blocks}

-- the place of the block, or how many blocks there are
abbrev pub place_of : List ℕ → ℕ → ℕ
place_of blocks block = position_or_len (λ other. other == block) blocks

-- a place is below the number of blocks or is that number
place_of-le : (blocks : List ℕ) (block : ℕ) → place_of blocks block ≤ length blocks
place_of-le blocks block = prefix_len-le-length (λ other. not (other == block)) blocks

-- the same, as the code finds it
pub place_of_found : (blocks : List ℕ) (block : ℕ)
    → unwrap_or (position (λ other. other == block) blocks) (length blocks) ≡ place_of blocks block
place_of_found blocks block = grind (arith, nat_tests, common_steps, place_of-le blocks block)

-- the others are the blocks before the place and those after it
abbrev pub IsSplit : List ℕ → ℕ → Type 0
IsSplit blocks block = others blocks block ≡ take (place_of blocks block) blocks
    ++ drop (place_of blocks block + 1) blocks

-- the block stands first
split-first : (block : ℕ) (blocks : List ℕ) → IsFalse (is_in blocks block) → IsSplit (block ∷ blocks) block
split-first block blocks absent =
    let same : (block == block) ≡ true = eq-eqb block block refl in
    simp same (others-absent block blocks absent)

-- another block stands first
split-later : (block other : ℕ) (blocks : List ℕ) → (other == block) ≡ false → IsSplit blocks block
    → IsSplit (other ∷ blocks) block
split-later block other blocks apart rest = grind (arith, common_steps)

-- the others of a set, by the place of the block
pub others-at_place : (block : ℕ) (blocks : List ℕ) → AreDistinct blocks → IsSplit blocks block
others-at_place block [] distinct = refl
others-at_place block (other ∷ blocks) distinct =
    elim (cases_eq other block) [
      | inl same ↦ subst (λ (b : ℕ). IsSplit (other ∷ blocks) b) same (split-first other blocks distinct.0)
      | inr apart ↦ split-later block other blocks (ne_eqb other block apart) (others-at_place block blocks distinct.1)
    ]

-- a block is there exactly where its place is below the number of blocks
is_in-at_place : (block : ℕ) (blocks : List ℕ) → is_in blocks block ≡ nat_lt (place_of blocks block) (length blocks)
is_in-at_place block [] = refl
is_in-at_place block (other ∷ blocks) = grind (arith, nat_tests, common_steps, is_in-at_place block blocks)

-- a block is in the set exactly where it has a place
pub is_in-found : (block : ℕ) (blocks : List ℕ)
    → is_in blocks block ≡ is_some (position (λ other. other == block) blocks)
is_in-found block blocks = grind (arith, nat_tests, is_in-at_place block blocks)

-- the first n of distinct blocks are distinct
take-distinct : (n : ℕ) (blocks : List ℕ) → AreDistinct blocks → AreDistinct (take n blocks)
take-distinct zero blocks distinct = tt
take-distinct (suc n) [] distinct = tt
take-distinct (suc n) (block ∷ blocks) distinct =
    (is_in-take n block blocks distinct.0, take-distinct n blocks distinct.1)

-- a fetch keeps the blocks distinct
pub touch-distinct : (ways block : ℕ) (blocks : List ℕ) → AreDistinct blocks → AreDistinct (touch ways blocks block)
touch-distinct ways block blocks distinct =
    take-distinct ways (block ∷ others blocks block) (fetched-distinct block blocks distinct)

-- what the code of a fetch knows: where it found the block, which slot it overwrites, and the slots afterwards
pub record IsStep (slots after : List ℕ) (len ways block place : ℕ) (found : Option ℕ) : Type 0 where
  pub sound : IsSound slots len ways
  pub found_is : found ≡ position (λ other. other == block) (take len slots)
  pub place_is : place ≡ min (unwrap_or found len) (ways - 1)
  pub after_is : after ≡ block ∷ (take place slots ++ drop (place + 1) slots)

-- the slots that are kept, with the block found at its place or past all blocks: the cut drops the last of a full set
kept : (slots : List ℕ) (block found len ways : ℕ) → found ≤ len → len ≤ ways → 1 ≤ ways → ways ≤ length slots
    → take (max len (min found (ways - 1) + 1)) (block ∷ (take (min found (ways - 1)) slots ++ drop
    (min found (ways - 1) + 1) slots))
    ≡ take ways (block ∷ (take found (take len slots) ++ drop (found + 1) (take len slots)))
kept slots block found len ways within few some room =
    same_lists _ _ (search (rules, places)) (λ k d below. grind (arith, places))

-- the code's place is the block's, or the number of blocks
found-at_place : (slots after : List ℕ) (len ways block place : ℕ) (found : Option ℕ)
    → IsStep slots after len ways block place found
    → unwrap_or found len ≡ place_of (take len slots) block
found-at_place slots after len ways block place found step =
    ap (λ o. unwrap_or o len) step.found_is
    ∙ ap (λ n. unwrap_or (position (λ other. other == block) (take len slots)) n)
    (sym (length-blocks slots len ways step.sound))
    ∙ place_of_found (take len slots) block

-- the blocks afterwards are those after the fetch
pub step-blocks : (slots after : List ℕ) (len ways block place : ℕ) (found : Option ℕ)
    → IsStep slots after len ways block place found
    → take (max len (place + 1)) after ≡ touch ways (take len slots) block
step-blocks slots after len ways block place found step =
    let blocks : List ℕ = take len slots in
    let at : ℕ = place_of blocks block in
    let place_is : place ≡ min at (ways - 1) =
    step.place_is ∙ ap (λ n. min n (ways - 1)) (found-at_place slots after len ways block place found step) in
    let within : at ≤ len = omega (arith, place_of-le blocks block, length-blocks slots len ways step.sound) in
    ap (λ xs. take (max len (place + 1)) xs) step.after_is
    ∙ ap (λ n. take (max len (n + 1)) (block ∷ (take n slots ++ drop (n + 1) slots))) place_is
    ∙ kept slots block at len ways within step.sound.within step.sound.some_ways (omega arith)
    ∙ ap (λ rest. take ways (block ∷ rest)) (sym (others-at_place block blocks step.sound.distinct))

-- the slots past the one that is overwritten stay
drop-shifted : (slots : List ℕ) (block place m : ℕ) → place < m → place < length slots
    → drop m (block ∷ (take place slots ++ drop (place + 1) slots)) ≡ drop m slots
drop-shifted slots block place zero past within = absurd (omega arith)
drop-shifted slots block place (suc m) past within =
    same_lists _ _ (search (rules, places)) (λ k d below. grind (arith, places))

-- the unused slots are still 0 where fewer are left
unused-past : (slots : List ℕ) (m len : ℕ) → len ≤ m → drop len slots ≡ replicate (16 - len) 0
    → drop m slots ≡ replicate (16 - m) 0
unused-past slots m len past unused =
    ap (λ n. drop n slots) (let n : m ≡ len + (m - len) = omega arith in n)
    ∙ sym (drop-drop (m - len) len slots)
    ∙ ap (λ rest. drop (m - len) rest) unused
    ∙ drop-replicate (m - len) (16 - len) 0
    ∙ ap (λ n. replicate n 0) (let n : 16 - len - (m - len) ≡ 16 - m = omega arith in n)

-- the slots afterwards are sound
pub step-sound : (slots after : List ℕ) (len ways block place : ℕ) (found : Option ℕ)
    → IsStep slots after len ways block place found
    → IsSound after (max len (place + 1)) ways
step-sound slots after len ways block place found step =
    let placed : place < length slots = omega arith in
    let m : ℕ = max len (place + 1) in
    record {
      room = ap length step.after_is ∙ search (rules, places);
      unused = ap (λ xs. drop m xs) step.after_is ∙ drop-shifted slots block place m (omega arith) placed
          ∙ unused-past slots m len (omega arith) step.sound.unused;
      within = omega arith;
      some_ways = step.sound.some_ways;
      few_ways = step.sound.few_ways;
      distinct = subst (λ (blocks : List ℕ). AreDistinct blocks)
          (sym (step-blocks slots after len ways block place found step))
          (touch-distinct ways block (take len slots) step.sound.distinct);
    }
