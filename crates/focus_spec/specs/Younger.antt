-- The younger set of a block: the other blocks of its set that were fetched since its own last fetch; and the warm set,
-- which with any cache at the start is there before the block is fetched too. Touzeau, Maïza, Monniaux and Reineke
-- 2019. A list of fetches stands with its last one first; each is given as the number of the block that it fetches, and
-- None where that is a block of another set.
use Rattle.std.specs.Prelude.{ℕ, ◌==◌, if◌then◌else◌, Bool, false, nat_lt, List, [], ◌∷◌, length, Option, Some, None, option_map, slice_index_or}
use Rattle.cache_spec.specs.declared.start.Start.{Start}
use Rattle.cache_spec.specs.declared.start.Start.TheVariants.{Empty, Any}

-- the numbers and x, where they rise: x stands in its place, once
abbrev pub with_number : ℕ → List ℕ → List ℕ
with_number x [] = x ∷ []
with_number x (y ∷ ys) = if nat_lt x y then x ∷ y ∷ ys else (if x == y then y ∷ ys else y ∷ with_number x ys)

-- the younger set of a block after one more fetch: empty after its own, and with the other block after another's
abbrev pub after : ℕ → Option ℕ → Option (List ℕ) → Option (List ℕ)
after block None younger = younger
after block (Some other) younger = if other == block then Some [] else option_map (with_number other) younger

-- the same after these fetches
abbrev pub after_all : ℕ → List (Option ℕ) → Option (List ℕ) → Option (List ℕ)
after_all block [] younger = younger
after_all block (fetch ∷ earlier) younger = after block fetch (after_all block earlier younger)

-- the younger set of a block after these fetches, its numbers rising; None where none of them fetches the block
abbrev pub younger : ℕ → List (Option ℕ) → Option (List ℕ)
younger block fetches = after_all block fetches None

-- the warm set before the first fetch: no block is younger than one that any cache may hold
abbrev pub first_warm : Start → Option (List ℕ)
first_warm Empty = None
first_warm Any = Some []

-- the warm set after these fetches: the younger set where there is one, else with any cache all blocks that they fetch
abbrev pub warm : Start → ℕ → List (Option ℕ) → Option (List ℕ)
warm start block fetches = after_all block fetches (first_warm start)

-- there is a younger set, and it has fewer than `ways` blocks
abbrev pub is_small : ℕ → Option (List ℕ) → Bool
is_small ways None = false
is_small ways (Some set) = nat_lt (length set) ways

-- the block with a local number among the blocks of a set
abbrev pub named : List ℕ → ℕ → ℕ
named blocks local = slice_index_or blocks local 0

-- what the node with this number fetches of the set
abbrev pub fetch_at : List (Option ℕ) → ℕ → Option ℕ
fetch_at fetches n = slice_index_or fetches n None
