-- The bounds of a block along the first paths.
use Rattle.std.specs.Prelude.{◌≡◌, ℕ, ◌<◌, List, length, Option, Some, None}
use Rattle.path_trail.specs.Trail.{TrailEntry}
use Rattle.lattice_fix.specs.Framework.{Framework}
use Rattle.age_spec.specs.Ages.{age_at}
use Rattle.age_exists.specs.Led.{LeadsTo}

-- what is moved from the node of the entry before; at node 0 the start
abbrev pub moved_from : Framework ℕ → List ℕ → Option ℕ → ℕ
moved_from F bounds None = F.start
moved_from F bounds (Some earlier) = F.transfer earlier (age_at bounds earlier)

-- the entry of each of the first nodes leads to the bound there
pub record AreFirstBounds (F : Framework ℕ) (firsts : List TrailEntry) (count : ℕ) (bounds : List ℕ) : Type 0 where
  pub one_each : length bounds ≡ count
  pub led : (n : ℕ) → n < count → LeadsTo F firsts n (age_at bounds n) n
