-- What a set starts with where the last fetch hits if it can.
use Rattle.std.specs.Prelude.{ℕ, Bool, false, List, [], ◌∷◌}
use Rattle.cache_spec.specs.declared.start.Start.{Start}
use Rattle.cache_spec.specs.declared.start.Start.TheVariants.{Empty, Any}
use Rattle.cache_spec.specs.Geometry.{Geometry, block_of}
use Rattle.cache_spec.specs.Contents.{ends_in_hit_from}

-- the list to start with for a hit of this block: the block alone, where the set may hold anything
abbrev pub best_list : Start → ℕ → List ℕ
best_list Empty block = []
best_list Any block = block ∷ []

-- the last fetch hits from that list of its block
abbrev pub ends_in_best_hit : Geometry → Start → List ℕ → Bool
ends_in_best_hit g start [] = false
ends_in_best_hit g start (address ∷ earlier) =
    ends_in_hit_from g (best_list start (block_of g address)) (address ∷ earlier)
