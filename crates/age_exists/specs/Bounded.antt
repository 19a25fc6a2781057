-- The bounds of one local block.
use Rattle.std.specs.Prelude.{◌≡◌, ℕ, ◌<◌, Bool, List, length}
use Rattle.cache_spec.specs.declared.start.Start.{Start}
use Rattle.set_view.specs.View.{View, IsView}
use Rattle.age_spec.specs.Sound.{BoundPlaces}
use Rattle.age_exists.specs.declared.one_block.FoundBounds.{FoundBounds}
use Rattle.age_exists.specs.Equations.{kind_of, exists_framework, own_ages, Setting, framework_of}
use Rattle.age_exists.specs.Led.{AreLed}
use Rattle.age_exists.specs.Retraced.{Retraced}
use Rattle.age_exists.specs.Seen.{seen_as}

-- a view and what its set may hold at first, one of its local blocks, and that block's exists-hit bounds before each
-- node, or its exists-miss bounds where `hits` is false
pub record Bounded : Type 0 where
  pub view : View
  pub start : Start
  pub block : ℕ
  pub hits : Bool
  pub bounds : List ℕ

-- ages that bound the places of blocks along each path, and of which these are those of what the nodes fetch
pub record AreOwn (view : View) (start : Start) (hits : Bool) (read : List ℕ) : Type 0 where
  pub ages : List (List ℕ)
  pub sound : BoundPlaces view (kind_of hits) start ages
  pub same : read ≡ own_ages view.fetches ages

-- the bounds are those over ages that bound the places of blocks, and the last entry of each node attests its bound
pub record AreAttested (b : Bounded) (t : Retraced) : Type 0 where
  pub is_view : IsView b.view
  pub known : b.block < length b.view.blocks
  pub ages : List (List ℕ)
  pub sound : BoundPlaces b.view (kind_of b.hits) b.start ages
  pub are_led : AreLed (exists_framework b.hits b.view b.start ages b.block) b.view.nodes b.bounds t

-- with these members
abbrev pub bounded_with : View → Start → ℕ → Bool → List ℕ → Bounded
bounded_with view start block hits bounds =
    record { view = view; start = start; block = block; hits = hits; bounds = bounds }

-- the bounds are those of this setting's equations, and the last entry of each node attests its bound
abbrev pub IsFoundOver : Setting → FoundBounds → Type 0
IsFoundOver s found = AreLed (framework_of s) s.view.nodes found.bounds.items (seen_as found.steps)
