-- Clap's command is made option by option.
use Rattle.std.proofs.Common.{◌≡◌, ◌∙◌, ◌+◌, ◌<◌, ℕ, List, length, map, take, fold, get_or, sym, ap}
use Rattle.std.proofs.lemmas.List.Folds.{fold-map}
use Rattle.std.proofs.lemmas.List.Sums.{fold_more}
use Rattle.clap.specs.Simple.{App}
use Rattle.command_spec.specs.declared.command.CommandOption.{CommandOption}
use Rattle.command_spec.specs.Commands.{kind_of}
use Rattle.command_spec.specs.ClapCommand.{with_option}

-- one option more of a table
pub options_more : (made : App) (options : List CommandOption) (i : ℕ) (d : CommandOption) → i < length options
    → fold with_option made (map kind_of (take (i + 1) options))
    ≡ with_option (fold with_option made (map kind_of (take i options))) (kind_of (get_or options i d))
options_more made options i d below =
    fold-map with_option kind_of made (take (i + 1) options)
    ∙ fold_more (λ (app : App) (o : CommandOption). with_option app (kind_of o)) made options i d below
    ∙ ap (λ (app : App). with_option app (kind_of (get_or options i d)))
    (sym (fold-map with_option kind_of made (take i options)))
