-- Fetches from small caches.
use Rattle.std.specs.Prelude.{◌↔◌, ℕ, Bool, true, false, IsTrue, IsFalse, List, [], ◌∷◌}
use Rattle.cache_spec.specs.Geometry.{Geometry}
use Rattle.cache_spec.specs.declared.start.Start.TheVariants.{Any}
use Rattle.cache_spec.specs.Start.{CanEnd}

-- the bytes of a line, the sets and the ways
abbrev pub geometry : ℕ → ℕ → ℕ → Geometry
geometry line sets ways = record { line = line; sets = sets; ways = ways }

-- a set of two ways before some touches, the block that is touched next, whether it was in, and the set after
abbrev pub worked_touches : List (List ℕ × ℕ × Bool × List ℕ)
worked_touches =
    ([], 1, false, 1 ∷ [])
    ∷ (1 ∷ [], 2, false, 2 ∷ 1 ∷ [])
    ∷ (2 ∷ 1 ∷ [], 1, true, 1 ∷ 2 ∷ [])
    ∷ (1 ∷ 2 ∷ [], 3, false, 3 ∷ 1 ∷ [])
    ∷ (3 ∷ 1 ∷ [], 2, false, 2 ∷ 3 ∷ [])
    ∷ []

-- addresses, the last fetch first, each list with whether it ends in a hit
abbrev pub worked_hits : List (Geometry × List ℕ × Bool)
worked_hits =
    (geometry 16 1 1, 0x10000 ∷ [], false)
    ∷ (geometry 16 1 1, 0x10004 ∷ 0x10000 ∷ [], true)
    ∷ (geometry 4 1 2, 0x10000 ∷ 0x10004 ∷ 0x10000 ∷ [], true)
    ∷ (geometry 4 1 2, 0x10008 ∷ 0x10004 ∷ 0x10000 ∷ [], false)
    ∷ (geometry 8 16 3, 0x10084 ∷ 0x10010 ∷ 0x10100 ∷ 0x1000c ∷ 0x10008 ∷ 0x10000 ∷ [], false)
    ∷ (geometry 8 16 3, 0x10084 ∷ 0x10010 ∷ 0x10080 ∷ 0x10008 ∷ 0x10000 ∷ [], true)
    ∷ []

-- addresses that are fetched from a cache that may start with anything, the last fetch first, each list with whether it
-- can end in a hit, and whether it has to
abbrev pub worked_starts : List (Geometry × List ℕ × Bool × Bool)
worked_starts =
    (geometry 16 1 1, 0x10000 ∷ [], true, false)
    ∷ (geometry 16 1 1, 0x10004 ∷ 0x10000 ∷ [], true, true)
    ∷ (geometry 4 1 2, 0x10004 ∷ 0x10000 ∷ [], true, false)
    ∷ (geometry 4 1 2, 0x10008 ∷ 0x10004 ∷ 0x10000 ∷ [], false, false)
    ∷ (geometry 4 1 1, 0x10000 ∷ 0x10004 ∷ 0x10000 ∷ [], false, false)
    ∷ (geometry 8 16 3, 0x10084 ∷ 0x10010 ∷ 0x10100 ∷ 0x1000c ∷ 0x10008 ∷ 0x10000 ∷ [], true, false)
    ∷ (geometry 8 16 3, 0x10084 ∷ 0x10180 ∷ 0x10100 ∷ 0x10000 ∷ [], false, false)
    ∷ []

-- the row is right: its fetches can end in a hit exactly where they may, and in a miss exactly where they needn't hit
abbrev pub IsRightRow : Geometry × List ℕ × Bool × Bool → Type 0
IsRightRow (g, addresses, may, must) =
    (CanEnd g Any addresses true ↔ IsTrue may) × (CanEnd g Any addresses false ↔ IsFalse must)
