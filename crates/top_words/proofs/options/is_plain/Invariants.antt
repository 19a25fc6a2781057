use Rattle.std.proofs.Common.{◌≡◌, length}
use Rattle.command_spec.specs.Plain.{is_plain}
use Rattle.command_spec.specs.Commands.{options_of}
use Rattle.top_words.specs.Views.{bytes_of}
use Rattle.top_words.proofs.options.is_plain.Given as goal

-- the arguments passed over are in plain form if those left are
abbrev pub invariant-loop-left : goal.invariant-loop-left
invariant-loop-left l = is_plain (options_of l.command) (bytes_of l.arguments)
    ≡ is_plain (options_of l.command) (bytes_of l.left)

abbrev pub decreases-loop-left : goal.decreases-loop-left
decreases-loop-left l = length l.left
