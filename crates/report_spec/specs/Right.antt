-- Which verdict is right of some configurations: it is that of all paths of the program that end in one of them, from
-- each cache that it may start with.
use Rattle.std.specs.Prelude.{◌≡◌, ℕ, Bool, true, false, List, ◌∷◌, map}
use Rattle.cache_spec.specs.Geometry.{Geometry}
use Rattle.cache_spec.specs.declared.start.Start.{Start}
use Rattle.cache_spec.specs.Start.{CanEnd}
use Rattle.cache_spec.specs.Verdict.{IsAlwaysHit, IsAlwaysMiss}
use Rattle.flow_spec.specs.Program.{Program}
use Rattle.flow_spec.specs.Configuration.{Configuration, start_of, fetched}
use Rattle.flow_spec.specs.Successors.{successors}
use Rattle.transition_spec.specs.declared.way.Way.{Way}
use Rattle.transition_spec.specs.Path.{IsPath}
use Rattle.transition_spec.specs.Named.{Names}
use Rattle.report_spec.specs.declared.line.Verdict.{Verdict}
use Rattle.report_spec.specs.declared.line.Verdict.TheVariants.{AlwaysHit, AlwaysMiss, Unknown}

-- the addresses that the members of a path fetch
abbrev pub fetches_of : List Configuration → List ℕ
fetches_of path = map fetched path

-- a path of the program from its entry that ends in the set of configurations
pub record EndsIn (program : Program) (Ends : Configuration → Type 0) (path : List Configuration) : Type 0 where
  pub last : Configuration
  pub earlier : List Configuration
  pub path_is : path ≡ last ∷ earlier
  pub is_path : IsPath (successors program) (start_of program.entry) path
  pub ends : Ends last

-- the addresses are those that such a path fetches
abbrev pub Fetches : Program → (Configuration → Type 0) → List ℕ → Type 0
Fetches program Ends addresses =
    (path : List Configuration) × EndsIn program Ends path × (addresses ≡ fetches_of path)

-- the way names such a path, and that path can hit, or can miss
pub record NamesFate (program : Program) (g : Geometry) (start : Start) (Ends : Configuration → Type 0)
    (way : Way) (hits : Bool) : Type 0 where
  pub path : List Configuration
  pub ends_in : EndsIn program Ends path
  pub names : Names (successors program) way path
  pub fate : CanEnd g start (fetches_of path) hits

-- the verdict is right of the configurations
abbrev pub IsRight : Program → Geometry → Start → (Configuration → Type 0) → Verdict → Type 0
IsRight program g start Ends AlwaysHit = IsAlwaysHit g start (Fetches program Ends)
IsRight program g start Ends AlwaysMiss = IsAlwaysMiss g start (Fetches program Ends)
IsRight program g start Ends (Unknown hit miss) =
    NamesFate program g start Ends hit true × NamesFate program g start Ends miss false
