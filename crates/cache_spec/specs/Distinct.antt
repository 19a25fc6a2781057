-- Lists of blocks of which no two are the same.
use Rattle.std.specs.Prelude.{ℕ, IsFalse, List, [], ◌∷◌}
use Rattle.cache_spec.specs.Lru.{is_in}

-- no block stands twice
abbrev pub AreDistinct : List ℕ → Type 0
AreDistinct [] = Unit {0}
AreDistinct (block ∷ blocks) = IsFalse (is_in blocks block) × AreDistinct blocks
