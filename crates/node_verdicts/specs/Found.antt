-- Which blocks of some sets the ages leave unclear.
use Rattle.std.specs.Prelude.{◌≡◌, ◌↔◌, ℕ, ◌-◌, ◌*◌, ◌<◌, ◌≤◌, List, length, Some, slice_get}
use Rattle.std.specs.List.{Contains}
use Rattle.cache_spec.specs.declared.start.Start.{Start}
use Rattle.cache_spec.specs.Blocks.{block_limit}
use Rattle.cache_spec.specs.Geometry.{Geometry, set_of}
use Rattle.path_model.specs.declared.graph.Node.{Node}
use Rattle.set_view.specs.View.{View}
use Rattle.age_spec.specs.Settled.{HasUnclear}
use Rattle.age_spec.specs.Jobs.{IsJob}

-- the number is that of the local block, which has an unclear fetch
abbrev pub IsJobHere : View → Start → ℕ → ℕ → Type 0
IsJobHere view start local number = (slice_get view.blocks local ≡ Some number) × HasUnclear view start local

-- these are the jobs among the first blocks of a view
pub record AreJobsOf (view : View) (start : Start) (count : ℕ) (jobs : List ℕ) : Type 0 where
  pub members : (number : ℕ) → Contains jobs number
      ↔ ((local : ℕ) × (local < count) × IsJobHere view start local number)
  pub most : length jobs ≤ count

-- a job of one of these sets: `low` and those above it, below `high`
pub record IsJobWithin (nodes : List Node) (g : Geometry) (start : Start) (low high block : ℕ) : Type 0 where
  pub above : low ≤ set_of g block
  pub below : set_of g block < high
  pub is_job : IsJob nodes g start block

-- a block of one of these sets that isn't a job
pub record IsClearWithin (nodes : List Node) (g : Geometry) (start : Start) (low high block : ℕ) : Type 0 where
  pub above : low ≤ set_of g block
  pub below : set_of g block < high
  pub no_job : IsJob nodes g start block → ⊥

-- these are the jobs of these sets, no more of a set than may be fetched
pub record AreJobsWithin (nodes : List Node) (g : Geometry) (start : Start) (low high : ℕ) (jobs : List ℕ) : Type 0 where
  pub members : (block : ℕ) → Contains jobs block ↔ IsJobWithin nodes g start low high block
  pub most : length jobs ≤ block_limit * (high - low)
