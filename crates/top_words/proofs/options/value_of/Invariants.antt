use Rattle.std.proofs.Common.{◌≡◌, length}
use Rattle.command_spec.specs.Commands.{options_of}
use Rattle.command_spec.specs.Plain.{value_of}
use Rattle.top_words.specs.Views.{bytes_of}
use Rattle.top_words.proofs.options.value_of.Given as goal

-- the arguments passed over don't have the name
abbrev pub invariant-loop-left : goal.invariant-loop-left
invariant-loop-left l = value_of (options_of l.command) l.name (bytes_of l.arguments)
    ≡ value_of (options_of l.command) l.name (bytes_of l.left)

abbrev pub decreases-loop-left : goal.decreases-loop-left
decreases-loop-left l = length l.left
