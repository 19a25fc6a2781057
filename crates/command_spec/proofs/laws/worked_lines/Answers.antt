use Rattle.std.proofs.Common.{refl}
use Rattle.clap.proofs.OnLiterals.{clap_on_literals}
use Rattle.command_spec.specs.Commands.{options_of}
use Rattle.command_spec.specs.ClapCommand.{app}
use Rattle.command_spec.specs.Settings.{plain_settings, parsed_settings}
use Rattle.command_spec.proofs.laws.worked_lines.Goals as goal

pub returns : goal.returns
unfolding app options_of plain_settings parsed_settings clap_on_literals lib.Count.ones
returns c = record { plain = refl; other = refl; none = refl }
