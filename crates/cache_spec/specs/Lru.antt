-- The LRU set: the list of the blocks that it keeps, the most recently fetched first. The textbook's policy.
use Rattle.std.specs.Prelude.{ℕ, Bool, not, List, ◌∷◌, take, filter, ◌==◌, nat_eq}
use Rattle.std.specs.List.{list_any}

-- the block is in the set
abbrev pub is_in : List ℕ → ℕ → Bool
is_in blocks block = list_any (nat_eq block) blocks

-- a fetch: the block first, the others in their order, cut to the ways
abbrev pub touch : ℕ → List ℕ → ℕ → List ℕ
touch ways blocks block = take ways (block ∷ filter (λ other. not (other == block)) blocks)
