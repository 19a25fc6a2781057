-- What a caller sees of a solution and of its absence.
use Rattle.std.specs.Prelude.{List, [], ◌∷◌, Option, Some, None}
use Rattle.lattice_fix.specs.declared.change.Change.{Change}
use Rattle.lattice_fix.specs.declared.change.SolveFault.{SolveFault}
use Rattle.lattice_fix.specs.declared.change.SolveFault.TheVariants.{Stopped, OutOfMemory}

-- the value before each node, and the changes that led to the values
pub record Solved (V : Type 0) : Type 0 where
  pub values : List V
  pub changes : List Change

-- the values that are there
abbrev pub somes : {V : Type 0} → List (Option V) → List V
somes [] = []
somes (None ∷ values) = somes values
somes (Some value ∷ values) = value ∷ somes values

-- what slots that are all filled, and changes, are seen as
abbrev pub solved_of : {V : Type 0} → List (Option V) → List Change → Solved V
solved_of slots changes = record { values = somes slots; changes = changes }

-- a fault is out of memory, or a stop that is licensed
abbrev pub IsCause : {S : Type 0} → (S → Type 0) → SolveFault S → Type 0
IsCause licensed (Stopped stop) = licensed stop
IsCause licensed OutOfMemory = Unit {0}
