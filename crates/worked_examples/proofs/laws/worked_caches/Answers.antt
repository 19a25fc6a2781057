-- What each row's fetches can do computes, by one list that its set starts with.
use Rattle.std.proofs.Common.{ℕ, ◌≤◌, List, [], ◌∷◌, lit≤}
use Rattle.cache_spec.specs.declared.start.Start.TheVariants.{Any}
use Rattle.cache_spec.specs.Geometry.{Geometry, block_of}
use Rattle.cache_spec.specs.Contents.{ends_in_hit, ends_in_hit_from}
use Rattle.cache_spec.proofs.Starts.{can_hit-alone, can_miss}
use Rattle.worked_examples.specs.Caches.{geometry, IsRightRow}
use Rattle.worked_examples.proofs.laws.worked_caches.Goals as goal

row : (g : Geometry) (address : ℕ) (earlier : List ℕ) → 1 ≤ g.ways
    → IsRightRow (
      g,
      address ∷ earlier,
      ends_in_hit_from g (block_of g address ∷ []) (address ∷ earlier),
      ends_in_hit g (address ∷ earlier),
    )
row g address earlier room = (can_hit-alone g address earlier room, can_miss g Any (address ∷ earlier))

pub returns-clause-starts : goal.returns-clause-starts
returns-clause-starts c = (
  row (geometry 16 1 1) 0x10000 [] (lit≤ tt),
  (
    row (geometry 16 1 1) 0x10004 (0x10000 ∷ []) (lit≤ tt),
    (
      row (geometry 4 1 2) 0x10004 (0x10000 ∷ []) (lit≤ tt),
      (
        row (geometry 4 1 2) 0x10008 (0x10004 ∷ 0x10000 ∷ []) (lit≤ tt),
        (
          row (geometry 4 1 1) 0x10000 (0x10004 ∷ 0x10000 ∷ []) (lit≤ tt),
          (
            row (geometry 8 16 3) 0x10084 (0x10010 ∷ 0x10100 ∷ 0x1000c ∷ 0x10008 ∷ 0x10000 ∷ []) (lit≤ tt),
            (row (geometry 8 16 3) 0x10084 (0x10180 ∷ 0x10100 ∷ 0x10000 ∷ []) (lit≤ tt), tt),
          ),
        ),
      ),
    ),
  ),
)
