-- What a cache may hold before the first fetch, and what a fetch can do then.
use Rattle.std.specs.Prelude.{◌≡◌, ℕ, ◌≤◌, Bool, IsFalse, List, [], ◌∷◌, length}
use Rattle.std.specs.List.{Contains}
use Rattle.cache_spec.specs.declared.start.Start.{Start}
use Rattle.cache_spec.specs.declared.start.Start.TheVariants.{Empty, Any}
use Rattle.cache_spec.specs.Geometry.{Geometry, block_of, set_of}
use Rattle.cache_spec.specs.Distinct.{AreDistinct}
use Rattle.cache_spec.specs.Contents.{ends_in_hit_from}

-- a set may hold these blocks: its own, none of them twice, and no more than it has ways
pub record MayHold (g : Geometry) (set : ℕ) (blocks : List ℕ) : Type 0 where
  pub own : (block : ℕ) → Contains blocks block → set_of g block ≡ set
  pub distinct : AreDistinct blocks
  pub few : length blocks ≤ g.ways

-- the lists that a set may start with
abbrev pub IsStartList : Geometry → Start → ℕ → List ℕ → Type 0
IsStartList g Empty set held = held ≡ []
IsStartList g Any set held = MayHold g set held

-- the last fetch can hit, or can miss where `hits` is false: for some start list of its set it does; with no fetch
-- there is no hit
abbrev pub CanEnd : Geometry → Start → List ℕ → Bool → Type 0
CanEnd g start [] hits = IsFalse hits
CanEnd g start (address ∷ earlier) hits =
    (held : List ℕ) × IsStartList g start (set_of g (block_of g address)) held
    × (ends_in_hit_from g held (address ∷ earlier) ≡ hits)
