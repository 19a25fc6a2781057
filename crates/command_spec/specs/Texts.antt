-- What the arguments of a command line give before any value is tested. The arguments lack the program's name.
use Rattle.std.specs.Prelude.{ℕ, Bool, false, List, [], ◌∷◌, Option, Some, None, option_map, option_and_then, codes, bytes_eq, if◌then◌else◌}
use Rattle.std.specs.Option.{option_map_or}
use Rattle.clap.specs.Walk.{Row, first_of, is_empty}
use Rattle.clap.specs.Simple.{subcommand_of}
use Rattle.clap.specs.Faults.{fault_of}
use Rattle.command_spec.specs.declared.command.Command.{Command}
use Rattle.command_spec.specs.Plain.{is_plain, value_of, has_option}
use Rattle.command_spec.specs.Commands.{command_of, options_of}
use Rattle.command_spec.specs.ClapCommand.{app}

-- a command, the text of each option's value where one is given, and which flags are given
pub record Texts : Type 0 where
  pub command : Command
  pub value : List ℕ → Option (List ℕ)
  pub has : List ℕ → Bool

-- read off names with their values, and flags, after a command
abbrev pub pairs_of : Command → List (List ℕ) → Texts
pairs_of command arguments = record {
  command = command;
  value = λ name. value_of (options_of command) name arguments;
  has = λ name. has_option (options_of command) name arguments;
}

-- the same where they are options of the command, none of them twice
abbrev pub plain_after : Command → List (List ℕ) → Option Texts
plain_after command arguments =
    if is_plain (options_of command) arguments then Some (pairs_of command arguments) else None

-- what a command and such options give
abbrev pub plain_of : List (List ℕ) → Option Texts
plain_of [] = None
plain_of (name ∷ arguments) = option_and_then (λ command. plain_after command arguments) (command_of name)

-- clap's flags are `true` where they are given, and else `false`
abbrev pub is_set : Option (List ℕ) → Bool
is_set text = option_map_or (λ t. bytes_eq t (codes "true")) text false

-- read off what clap found for a command's options
abbrev pub rows_give : List Row → Command → Texts
rows_give rows command = record {
  command = command;
  value = λ name. first_of name rows;
  has = λ name. is_set (first_of name rows);
}

-- what clap gives where it meets a command: the command's name, and what it found
abbrev pub texts_met : List ℕ × List Row → Option Texts
texts_met met = option_map (rows_give met.1) (command_of met.0)

-- what clap's reading gives where it finds no fault
abbrev pub parsed_of : List (List ℕ) → Option Texts
parsed_of arguments =
    if is_empty (fault_of app arguments) then option_and_then texts_met (subcommand_of app arguments) else None
