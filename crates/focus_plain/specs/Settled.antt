-- What is settled of a block at the nodes that fetch it.
use Rattle.std.specs.Prelude.{◌≡◌, ◌≢◌, ◌↔◌, ℕ, true, false, List, [], None, Some, IsSome, slice_get}
use Rattle.cache_spec.specs.declared.start.Start.{Start}
use Rattle.focus_spec.specs.Focus.{AreLeast, AreMost}
use Rattle.set_view.specs.View.{View}
use Rattle.focus_plain.specs.declared.settling.Fate.{Fate}
use Rattle.focus_plain.specs.declared.settling.PlainPlace.{PlainPlace}
use Rattle.focus_plain.specs.Judged.{IsEnd}

-- a way of a path that can hit and one of a path that can miss, each exactly where some path that ends in the node can
pub record IsFate (view : View) (start : Start) (fate : Fate) : Type 0 where
  pub hit : IsEnd view start fate.node true fate.hit
  pub miss : IsEnd view start fate.node false fate.miss

-- exactly the least warm and the most younger sets of the block before the node
pub record IsPlainPlace (view : View) (start : Start) (block : ℕ) (place : PlainPlace) : Type 0 where
  pub least : AreLeast view.nodes view.fetches view.geometry.ways start block place.node place.least
  pub most : AreMost view.nodes view.fetches view.geometry.ways block place.node place.most

-- there is a way to a hit exactly where there is a least warm set, and one to a miss exactly where the most are
-- absent
pub record IsAlike (place : PlainPlace) (fate : Fate) : Type 0 where
  pub same : fate.node ≡ place.node
  pub hit : IsSome fate.hit ↔ (place.least ≢ [])
  pub miss : IsSome fate.miss ↔ (place.most ≡ None)

-- the places and the fates are alike one by one
abbrev pub AreAlike : List PlainPlace → List Fate → Type 0
AreAlike places fates = (k : ℕ) (place : PlainPlace) (fate : Fate) → slice_get places k ≡ Some place
    → slice_get fates k ≡ Some fate → IsAlike place fate
