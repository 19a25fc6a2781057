use Rattle.std.proofs.Common.{◌∙◌, sym, ap}
use Rattle.clap.specs.Faults.{fault_of, is_simple_and_free}
use Rattle.clap.specs.Simple.{App, app_of, is_simple, subcommand_of}
use Rattle.command_spec.proofs.ClapCommand.{app_is_simple, app_is_free}
use Rattle.top_words.specs.Views.{bytes_of}
use Rattle.top_words.proofs.ClapFaults.{some_fault}
use Rattle.top_words.proofs.words.matches_of.Goals as goal

pub returns-in-Ok : goal.returns-in-Ok
returns-in-Ok c =
    let words = bytes_of c.args.words.now in
    let is = c.in_ok-program.ensures in (
      ap (λ (a : App). fault_of a words) (sym is) ∙ c.in-Ok.ensures.kinds (ap is_simple_and_free is ∙ app_is_free),
      (c.in-Ok.ensures.matches (ap is_simple is ∙ app_is_simple)).1 ∙ ap (λ (a : App). subcommand_of a words) is,
    )

pub returns : goal.returns
returns c =
    let words = bytes_of c.args.words.now in
    let is = c.in_ok-program.ensures in
    λ none. some_fault (fault_of (app_of c.in_ok-program.field-0) words) c.in-Err.error
    (c.in-Err.ensures.kinds (ap is_simple_and_free is ∙ app_is_free))
    (λ memory. c.in_default.not-OutOfMemory (c.kind.ensures ∙ memory))
    (ap (λ (a : App). fault_of a words) is ∙ none)
