use Rattle.std.proofs.Common.{◌≡◌, false, fold, map, take}
use Rattle.clap.specs.Simple.{app_of, new_app}
use Rattle.clap.specs.declared.builder.command.Command.TheViews.{out-Command}
use Rattle.command_spec.specs.Commands.{kind_of, name_of}
use Rattle.command_spec.specs.ClapCommand.{with_option}
use Rattle.top_words.proofs.clap_command.subcommand_for.Given as goal

-- the options passed over are those of the command that is made, and none of them is global
abbrev pub invariant-loop-option : goal.invariant-loop-option
invariant-loop-option l = record {
  app : app_of l.subcommand ≡ fold with_option (new_app (name_of l.fn.command)) (map kind_of (take l.option-index l.option-items));
  local : (out-Command l.subcommand).has_globals ≡ false;
}
