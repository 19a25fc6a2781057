-- The commands and their options. The names are this project's own.
use Rattle.std.specs.Prelude.{ℕ, List, [], ◌∷◌, Option, Some, None, codes, bytes_eq, if◌then◌else◌}
use Rattle.command_spec.specs.declared.command.Command.{Command}
use Rattle.command_spec.specs.declared.command.Command.TheVariants.{Classify, Graph}
use Rattle.command_spec.specs.declared.command.CommandOption.{CommandOption}
use Rattle.command_spec.specs.declared.command.CommandOption.TheVariants.{Valued, Flag}
use Rattle.command_spec.specs.Plain.{OptionKind, valued, flag}

-- the argument that names a command
abbrev pub name_of : Command → List ℕ
name_of Classify = codes "classify"
name_of Graph = codes "graph"

-- the command of a name
abbrev pub command_of : List ℕ → Option Command
command_of name =
    if bytes_eq name (name_of Classify)
    then Some Classify
    else if bytes_eq name (name_of Graph) then Some Graph else None

-- the options of a command
unfoldable pub options_of : Command → List OptionKind
options_of Classify =
    valued (codes "--line")
    ∷ valued (codes "--sets")
    ∷ valued (codes "--ways")
    ∷ valued (codes "--workers")
    ∷ valued (codes "--nodes")
    ∷ valued (codes "--entry")
    ∷ valued (codes "--start")
    ∷ valued (codes "--isa")
    ∷ flag (codes "--contexts")
    ∷ []
options_of Graph = valued (codes "--entry") ∷ valued (codes "--line") ∷ valued (codes "--isa") ∷ []

-- an option of the code's table
abbrev pub kind_of : CommandOption → OptionKind
kind_of (Valued name) = valued name.now
kind_of (Flag name) = flag name.now
