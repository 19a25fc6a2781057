-- What a contract sees of an LRU set, and what holds of each.
use Rattle.std.specs.Prelude.{◌≡◌, ℕ, ◌-◌, ◌≤◌, List, length, take, drop, replicate}
use Rattle.cache_spec.specs.Distinct.{AreDistinct}

-- the blocks that the set keeps, the most recently fetched first, and how many it has room for
pub record LruSet : Type 0 where
  pub blocks : List ℕ
  pub ways : ℕ

-- what the fields keep: the first len of the 16 slots are the blocks, and the others are 0, so that equal sets have
-- equal fields
pub record IsSound (slots : List ℕ) (len ways : ℕ) : Type 0 where
  pub room : length slots ≡ 16
  pub unused : drop len slots ≡ replicate (16 - len) 0
  pub within : len ≤ ways
  pub some_ways : 1 ≤ ways
  pub few_ways : ways ≤ 16
  pub distinct : AreDistinct (take len slots)
