-- The commands as clap's are of those whose matches clap's contracts give exactly.
use Rattle.std.proofs.Common.{◌≡◌, true, refl}
use Rattle.clap.specs.Faults.{is_simple_and_free}
use Rattle.clap.specs.Simple.{is_simple}
use Rattle.command_spec.specs.Commands.{options_of}
use Rattle.command_spec.specs.ClapCommand.{app}

pub app_is_simple : is_simple app ≡ true
unfolding app options_of
app_is_simple = refl

pub app_is_free : is_simple_and_free app ≡ true
unfolding app options_of
app_is_free = refl
