use Rattle.std.proofs.Common.{◌∙◌, sym, subst}
use Rattle.std.specs.Prelude.{Option, IfSome}
use Rattle.command_spec.specs.declared.settings.Settings.{Settings}
use Rattle.command_spec.specs.Settings.{IsInRange}
use Rattle.command_spec.proofs.Ranges.{settings_have}
use Rattle.top_words.specs.Views.{bytes_of}
use Rattle.icache_top.proofs.top.answer.Goals as goal

pub answer_file-requires-clause-ranges : goal.answer_file-requires-clause-ranges
answer_file-requires-clause-ranges g c κs lives =
    let P : Option Settings → Type 0 = λ given. IfSome given (λ settings. IsInRange settings.ask) in
    subst P (sym c.in_ok-settings.ensures ∙ c.in-Some.is) (settings_have (bytes_of c.args.words.now))
