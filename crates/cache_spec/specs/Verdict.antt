-- The verdict of a set of paths, each given as the addresses that it fetches, over all lists that a set may start with.
use Rattle.std.specs.Prelude.{ℕ, true, false, List}
use Rattle.cache_spec.specs.declared.start.Start.{Start}
use Rattle.cache_spec.specs.Geometry.{Geometry}
use Rattle.cache_spec.specs.Start.{CanEnd}

-- no path is there
abbrev pub IsUnreachable : (List ℕ → Type 0) → Type 0
IsUnreachable Fetches = (addresses : List ℕ) → Fetches addresses → ⊥

-- some path is there, and none of them can miss
pub record IsAlwaysHit (g : Geometry) (start : Start) (Fetches : List ℕ → Type 0) : Type 0 where
  pub some : (addresses : List ℕ) × Fetches addresses
  pub none : (addresses : List ℕ) → Fetches addresses → CanEnd g start addresses false → ⊥

-- some path is there, and none of them can hit
pub record IsAlwaysMiss (g : Geometry) (start : Start) (Fetches : List ℕ → Type 0) : Type 0 where
  pub some : (addresses : List ℕ) × Fetches addresses
  pub none : (addresses : List ℕ) → Fetches addresses → CanEnd g start addresses true → ⊥
