use Rattle.std.proofs.Common.{◌∙◌}
use Rattle.clap.specs.Matches.{found_of}
use Rattle.clap.proofs.WalkLemmas.{first_value-rows}
use Rattle.top_words.proofs.given.Given.value.Goals as goal

pub returns-in-Parsed : goal.returns-in-Parsed
returns-in-Parsed c =
    rw c.in-Parsed.is (c.get_str.ensures ∙ first_value-rows (found_of c.in-Parsed.matches.now) c.args.name.now)
