use Rattle.std.proofs.Common.{◌∙◌, ap}
use Rattle.clap.specs.Matches.{found_of}
use Rattle.clap.proofs.WalkLemmas.{first_value-rows}
use Rattle.command_spec.specs.Texts.{is_set}
use Rattle.top_words.proofs.given.Given.has.Goals as goal

pub returns-in-Parsed : goal.returns-in-Parsed
returns-in-Parsed c =
    rw c.in-Parsed.is
    (c.is_set.ensures
    ∙ ap is_set (c.get_str.ensures ∙ first_value-rows (found_of c.in-Parsed.matches.now) c.args.name.now))
