-- What the bounds of the blocks of a set are found from, and what first paths attest.
use Rattle.std.specs.Prelude.{◌≡◌, ℕ, false, List, Some}
use Rattle.cache_spec.specs.declared.start.Start.{Start}
use Rattle.path_trail.specs.Trail.{TrailEntry, IsChain}
use Rattle.focus_spec.specs.Younger.{fetch_at}
use Rattle.set_view.specs.View.{View, IsView}
use Rattle.age_spec.specs.Ages.{AreMustAges, AreMayAges, AreRows, age_at}
use Rattle.age_spec.specs.Exists.{AreMissBounds}
use Rattle.age_spec.specs.Settled.{CanMissByBound}
use Rattle.age_spec.specs.Sound.{IsWitness}
use Rattle.age_exists.specs.Firsts.{AreFirsts}

-- a view of a set and what it may hold at first, the must and may ages of its blocks, and the first path to each node
pub record Solving : Type 0 where
  pub view : View
  pub start : Start
  pub must : List (List ℕ)
  pub may : List (List ℕ)
  pub firsts : List TrailEntry

-- with these members
abbrev pub solving_with : View → Start → List (List ℕ) → List (List ℕ) → List TrailEntry → Solving
solving_with view start must may firsts =
    record { view = view; start = start; must = must; may = may; firsts = firsts }

-- the ages are those of the view, and the first paths those of its graph
pub record IsSolving (s : Solving) : Type 0 where
  pub is_view : IsView s.view
  pub must_ages : AreMustAges s.view s.must
  pub must_rows : AreRows s.view s.must
  pub may_ages : AreMayAges s.view s.start s.may
  pub may_rows : AreRows s.view s.may
  pub firsts : AreFirsts s.view.nodes s.firsts

-- the first path to the node, which fetches a block, attests that it can miss there, and so does its exists-miss bound
pub record MissesFirst (s : Solving) (n : ℕ) : Type 0 where
  pub block : ℕ
  pub fetches : fetch_at s.view.fetches n ≡ Some block
  pub bound : (bounds : List ℕ) → AreMissBounds s.view s.may block bounds
      → CanMissByBound s.view.geometry.ways (age_at bounds n)
  pub first : (members : List ℕ) → IsChain s.firsts (Some n) members → IsWitness s.view s.start n false members
  pub some : (members : List ℕ) × IsWitness s.view s.start n false members
