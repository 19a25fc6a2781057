-- Exists-hit and exists-miss bounds: before each node a number from 0 to the ways for each local block, which some path
-- to the node attests (after Touzeau, Maïza, Monniaux and Reineke 2017; the equations are this project's own).
use Rattle.std.specs.Prelude.{ℕ, ◌+◌, ◌≤◌, ◌==◌, nat_le, if◌then◌else◌, min, max, List, Option, Some, None}
use Rattle.cache_spec.specs.declared.start.Start.{Start}
use Rattle.cache_spec.specs.declared.start.Start.TheVariants.{Empty, Any}
use Rattle.lattice_fix.specs.Framework.{Framework}
use Rattle.lattice_fix.specs.Solution.{IsLeast}
use Rattle.focus_spec.specs.Younger.{fetch_at}
use Rattle.set_view.specs.View.{View}
use Rattle.age_spec.specs.Ages.{grown, age_of}

-- exists-hit bounds at node 0: the ways, but 0 where the set may hold anything
abbrev pub first_hit_bound : Start → ℕ → ℕ
first_hit_bound Empty ways = ways
first_hit_bound Any ways = 0

-- an exists-hit bound stays where it is no less than the must age of the block that is fetched, else it grows
abbrev pub hit_bound_after : ℕ → ℕ → ℕ → ℕ
hit_bound_after ways must bound = if nat_le must bound then bound else grown ways bound

-- an exists-miss bound grows where it is no greater than the may age of the block that is fetched, else it stays
abbrev pub miss_bound_after : ℕ → ℕ → ℕ → ℕ
miss_bound_after ways may bound = if nat_le bound may then grown ways bound else bound

-- the bound of a block after a node: 0 where it fetches the block, and changed where it fetches another of the set
abbrev pub bound_after : (ℕ → ℕ → ℕ) → ℕ → Option ℕ → ℕ → ℕ
bound_after change block None bound = bound
bound_after change block (Some other) bound = if other == block then 0 else change other bound

-- the equations of the exists-hit bounds of one local block, over must ages: the lesser of bounds that meet, and the
-- reverse order
abbrev pub hit_framework : View → Start → List (List ℕ) → ℕ → Framework ℕ
hit_framework view start must block = record {
  carrier = λ bound. bound ≤ view.geometry.ways;
  start = first_hit_bound start view.geometry.ways;
  transfer = λ n bound. bound_after (λ other. hit_bound_after view.geometry.ways (age_of must n other)) block
      (fetch_at view.fetches n) bound;
  below = λ one two. two ≤ one;
  join = min;
  height = view.geometry.ways + 1;
}

-- the equations of the exists-miss bounds of one local block, over may ages: at node 0 the ways, the greater of bounds
-- that meet, and the order of numbers
abbrev pub miss_framework : View → List (List ℕ) → ℕ → Framework ℕ
miss_framework view may block = record {
  carrier = λ bound. bound ≤ view.geometry.ways;
  start = view.geometry.ways;
  transfer = λ n bound. bound_after (λ other. miss_bound_after view.geometry.ways (age_of may n other)) block
      (fetch_at view.fetches n) bound;
  below = λ one two. one ≤ two;
  join = max;
  height = view.geometry.ways + 1;
}

-- these are a local block's exists-hit bounds before each node
abbrev pub AreHitBounds : View → Start → List (List ℕ) → ℕ → List ℕ → Type 0
AreHitBounds view start must block bounds = IsLeast (hit_framework view start must block) view.nodes bounds

-- these are a local block's exists-miss bounds before each node
abbrev pub AreMissBounds : View → List (List ℕ) → ℕ → List ℕ → Type 0
AreMissBounds view may block bounds = IsLeast (miss_framework view may block) view.nodes bounds
