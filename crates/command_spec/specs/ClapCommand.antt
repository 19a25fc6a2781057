-- The commands as clap's: what clap reads where arguments aren't in plain form. Made from the table of options, so that
-- each option stands once.
use Rattle.std.specs.Prelude.{ℕ, true, List, Some, take, drop, fold, codes, bytes_eq, if◌then◌else◌}
use Rattle.clap.specs.Walk.{Rule}
use Rattle.clap.specs.Simple.{App, Shape, new_app, new_rule, on_top, with_rule, with_subcommand}
use Rattle.clap.specs.declared.builder.action.ArgAction.TheVariants.{Set, SetTrue}
use Rattle.command_spec.specs.declared.command.Command.{Command}
use Rattle.command_spec.specs.declared.command.Command.TheVariants.{Classify, Graph}
use Rattle.command_spec.specs.Plain.{OptionKind}
use Rattle.command_spec.specs.Commands.{name_of, options_of}

-- a name without its two hyphens
abbrev pub long_of : List ℕ → List ℕ
long_of name = if bytes_eq (take 2 name) (codes "--") then drop 2 name else name

-- an option as clap's argument: its id is the whole name; it takes one value, or is a flag
abbrev pub rule_for : OptionKind → Rule
rule_for kind = record (new_rule kind.name) {
  long = Some (long_of kind.name);
  action = Some (if kind.takes_value then Set else SetTrue);
}

-- a command with one more option
abbrev pub with_option : App → OptionKind → App
with_option app kind = with_rule app (rule_for kind)

-- a command as clap's subcommand, with its options
abbrev pub subcommand_for : Command → App
subcommand_for command = fold with_option (new_app (name_of command)) (options_of command)

-- the program's name alone: its arguments lack it, and there is no help and no version among them
abbrev pub without_extras : Shape → Shape
without_extras top = record top {
  no_binary_name = true;
  disable_help_flag = true;
  disable_help_subcommand = true;
  disable_version_flag = true;
}

abbrev pub bare : App
bare = on_top without_extras (new_app (codes "icache"))

-- the program as clap's command, with a subcommand for each command
unfoldable pub app : App
app = with_subcommand (with_subcommand bare (subcommand_for Classify).top) (subcommand_for Graph).top
