-- A path of the loop, and the way that names it.
use Rattle.std.specs.Prelude.{List, [], ◌∷◌, codes}
use Rattle.transition_spec.specs.declared.way.Way.{Way}
use Rattle.flow_spec.specs.Configuration.{Configuration}
use Rattle.worked_examples.specs.Programs.{at}

-- once around, its last member first
abbrev pub once_around : List Configuration
once_around = at 0x10000 ∷ at 0x10004 ∷ at 0x10000 ∷ []

-- its name
abbrev pub once_around_way : Way
once_around_way = record { steps = 3; choices = codes "t" }
