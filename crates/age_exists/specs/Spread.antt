-- Exists-hit bounds of a block that are lowered one after another, beginning at the nodes that fetch it.
use Rattle.std.specs.Prelude.{◌≡◌, ◌≢◌, ℕ, ◌+◌, ◌<◌, ◌≤◌, ◌⊎◌, nat_lt, if◌then◌else◌, List, length, sum, Option, Some, None, slice_set}
use Rattle.cache_spec.specs.declared.start.Start.{Start}
use Rattle.transition_spec.specs.Path.{IsSuccessor}
use Rattle.path_model.specs.Graph.{graph_step}
use Rattle.path_trail.specs.Trail.{TrailEntry, node_at, IsTrail}
use Rattle.lattice_fix.specs.Framework.{Framework}
use Rattle.focus_spec.specs.Younger.{fetch_at}
use Rattle.set_view.specs.View.{View, IsView}
use Rattle.age_spec.specs.Ages.{age_at}
use Rattle.age_spec.specs.Exists.{hit_framework}
use Rattle.age_exists.specs.declared.near.HitSystem.{HitSystem}
use Rattle.age_exists.specs.declared.one_block.FoundBounds.{FoundBounds}
use Rattle.age_exists.specs.Led.{LeadsTo}
use Rattle.age_exists.specs.Retraced.{Retraced, last_at, with_change}
use Rattle.age_exists.specs.Seen.{seen_as}

-- which exists-hit equations: over a view, from must ages
pub record Hits : Type 0 where
  pub view : View
  pub start : Start
  pub must : List (List ℕ)
  pub block : ℕ

-- the equations
abbrev pub equations_of : Hits → Framework ℕ
equations_of h = hit_framework h.view h.start h.must h.block

-- how they are kept
abbrev pub hits_seen : HitSystem → Hits
hits_seen system =
    record { view = system.view.now; start = system.start; must = system.must.now; block = system.block }

-- the bounds so far, and the entries with which they came
pub record Spread : Type 0 where
  pub bounds : List ℕ
  pub trail : Retraced

-- how they are kept
abbrev pub spread_seen : FoundBounds → Spread
spread_seen found = record { bounds = found.bounds.items; trail = seen_as found.steps }

-- with this bound at a node, and an entry for it after the last one of the node that it comes from
abbrev pub with_bound : Spread → ℕ → ℕ → ℕ → Spread
with_bound s from node bound = record {
  bounds = slice_set s.bounds node bound;
  trail = with_change s.trail (record { node = node; from = Some from });
}

-- the same, where this bound is less than the one that the node has
abbrev pub lowered : Spread → ℕ → ℕ → ℕ → Spread
lowered s from node bound = if nat_lt bound (age_at s.bounds node) then with_bound s from node bound else s

-- the same at a successor, if there is one
abbrev pub lowered_at : Spread → ℕ → Option ℕ → ℕ → Spread
lowered_at s from None bound = s
lowered_at s from (Some node) bound = lowered s from node bound

-- a node has a last entry, which leads to the node's bound where that is below the ways
pub record HasLast (h : Hits) (s : Spread) (n : ℕ) : Type 0 where
  pub number : ℕ
  pub last : last_at s.trail.last n ≡ Some number
  pub inside : number < length s.trail.entries
  pub node : node_at s.trail.entries number ≡ n
  pub leads : age_at s.bounds n < h.view.geometry.ways
      → LeadsTo (equations_of h) s.trail.entries n (age_at s.bounds n) number

-- each node has a bound, at most the ways, and a last entry in a trail; node 0 has at most the start
pub record IsSpread (h : Hits) (s : Spread) : Type 0 where
  pub is_view : IsView h.view
  pub one_each : length s.bounds ≡ length h.view.nodes
  pub one_last_each : length s.trail.last ≡ length h.view.nodes
  pub few : (n : ℕ) → age_at s.bounds n ≤ h.view.geometry.ways
  pub starts : age_at s.bounds 0 ≤ (equations_of h).start
  pub trail : IsTrail h.view.nodes s.trail.entries
  pub each : (n : ℕ) → n < length h.view.nodes → HasLast h s n

-- each successor's bound is at most what the node makes of its own
abbrev pub IsMet : Hits → List ℕ → ℕ → Type 0
IsMet h bounds n = (m : ℕ) → IsSuccessor (graph_step h.view.nodes) n m
    → age_at bounds m ≤ (equations_of h).transfer n (age_at bounds n)

-- an entry of the node, with this number or a greater one, waits to be worked off
pub record Waits (entries : List TrailEntry) (head n : ℕ) : Type 0 where
  pub number : ℕ
  pub from : head ≤ number
  pub inside : number < length entries
  pub node : node_at entries number ≡ n

-- nothing is owed after the node, unless it waits
abbrev pub IsClear : Hits → ℕ → Spread → ℕ → Type 0
IsClear h head s n = Waits s.trail.entries head n ⊎ IsMet h s.bounds n

-- at first nothing is owed but after node 0 and the nodes that fetch the block
pub record IsBegun (h : Hits) (s : Spread) : Type 0 where
  pub spread : IsSpread h s
  pub met : (n : ℕ) → n ≢ 0 → fetch_at h.view.fetches n ≢ Some h.block → IsMet h s.bounds n

-- the entries before this number are worked off: nothing is owed but after nodes that wait
pub record IsUnderWay (h : Hits) (head : ℕ) (s : Spread) : Type 0 where
  pub spread : IsSpread h s
  pub within : head ≤ length s.trail.entries
  pub clear : (n : ℕ) → IsClear h head s n

-- bounds were lowered: each new entry came with a lower bound, and what was clear is clear
pub record Lowers (h : Hits) (before after : Spread) : Type 0 where
  pub spread : IsSpread h after
  pub longer : length before.trail.entries ≤ length after.trail.entries
  pub falls : sum after.bounds + length after.trail.entries ≤ sum before.bounds + length before.trail.entries
  pub keeps : (head n : ℕ) → head ≤ length before.trail.entries → IsClear h head before n → IsClear h head after n

-- and nothing is owed after this node
pub record SpreadsFrom (h : Hits) (n : ℕ) (before after : Spread) : Type 0 where
  pub lowers : Lowers h before after
  pub met : IsMet h after.bounds n
