-- Which fetches hit, when addresses are fetched one after another.
-- A list of fetched addresses stands with its last fetch first, as the paths do whose members fetch them.
use Rattle.std.specs.Prelude.{ℕ, Bool, false, List, [], ◌∷◌, ◌==◌, if◌then◌else◌}
use Rattle.cache_spec.specs.Geometry.{Geometry, block_of, set_of}
use Rattle.cache_spec.specs.Lru.{touch, is_in}

-- what one set keeps after these fetches, where it held these blocks before the first
abbrev pub contents : Geometry → ℕ → List ℕ → List ℕ → List ℕ
contents g set held [] = held
contents g set held (address ∷ earlier) =
    if set_of g (block_of g address) == set
    then touch g.ways (contents g set held earlier) (block_of g address)
    else contents g set held earlier

-- the last fetch finds its block in the block's set, which held these blocks before the first; with no fetch there is
-- no hit
abbrev pub ends_in_hit_from : Geometry → List ℕ → List ℕ → Bool
ends_in_hit_from g held [] = false
ends_in_hit_from g held (address ∷ earlier) =
    is_in (contents g (set_of g (block_of g address)) held earlier) (block_of g address)

-- the same from an empty cache
abbrev pub ends_in_hit : Geometry → List ℕ → Bool
ends_in_hit g addresses = ends_in_hit_from g [] addresses
