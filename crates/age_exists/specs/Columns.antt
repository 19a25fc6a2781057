-- The bounds of all local blocks.
use Rattle.std.specs.Prelude.{◌≡◌, ℕ, ◌<◌, Bool, List, [], length, slice_index_or}
use Rattle.cache_spec.specs.declared.start.Start.{Start}
use Rattle.lattice_fix.specs.Solution.{IsLeast}
use Rattle.set_view.specs.View.{View}
use Rattle.age_spec.specs.Ages.{AreMustAges, AreMayAges, age_at}
use Rattle.age_spec.specs.Exists.{AreHitBounds, AreMissBounds}
use Rattle.age_exists.specs.Equations.{own_ages, framework_of, setting_with}

-- what the set may hold at first, the ages of what each node fetches, and for each local block its bounds before each
-- node
pub record Columns : Type 0 where
  pub start : Start
  pub own : List ℕ
  pub columns : List (List ℕ)

-- with these members
abbrev pub columns_with : Start → List ℕ → List (List ℕ) → Columns
columns_with start own columns = record { start = start; own = own; columns = columns }

-- the bounds of a local block
abbrev pub column_at : List (List ℕ) → ℕ → List ℕ
column_at columns local = slice_index_or columns local []

-- the bound of a local block before a node
abbrev pub bound_at : Columns → ℕ → ℕ → ℕ
bound_at c n local = age_at (column_at c.columns local) n

-- for each local block its least solution of the equations over the ages of what each node fetches
pub record AreColumns (view : View) (start : Start) (hits : Bool) (own : List ℕ) (columns : List (List ℕ))
    : Type 0 where
  pub one_each : length columns ≡ length view.blocks
  pub least : (local : ℕ) → local < length view.blocks
      → IsLeast (framework_of (setting_with hits view start own local)) view.nodes (column_at columns local)

-- for each local block its exists-hit bounds over these must ages
pub record AreHitColumns (view : View) (start : Start) (must columns : List (List ℕ)) : Type 0 where
  pub one_each : length columns ≡ length view.blocks
  pub each : (local : ℕ) → local < length view.blocks → AreHitBounds view start must local (column_at columns local)

-- for each local block its exists-miss bounds over these may ages
pub record AreMissColumns (view : View) (may columns : List (List ℕ)) : Type 0 where
  pub one_each : length columns ≡ length view.blocks
  pub each : (local : ℕ) → local < length view.blocks → AreMissBounds view may local (column_at columns local)

-- the exists-hit bounds of a view, and the must ages of what its nodes fetch
pub record AreHitsOf (view : View) (c : Columns) : Type 0 where
  pub must : List (List ℕ)
  pub ages : AreMustAges view must
  pub same : c.own ≡ own_ages view.fetches must
  pub bounds : AreHitColumns view c.start must c.columns

-- the exists-miss bounds of a view, and the may ages of what its nodes fetch
pub record AreMissesOf (view : View) (c : Columns) : Type 0 where
  pub may : List (List ℕ)
  pub ages : AreMayAges view c.start may
  pub same : c.own ≡ own_ages view.fetches may
  pub bounds : AreMissColumns view may c.columns

-- the rows of the bounds are those of the view: one for each local block, with a bound before each node
pub record HaveBounds (view : View) (columns : List (List ℕ)) : Type 0 where
  pub one_each : length columns ≡ length view.blocks
  pub long : (local : ℕ) → local < length view.blocks → length (column_at columns local) ≡ length view.nodes
