-- What arguments give, by the reading that was made of them.
use Rattle.clap.specs.Matches.{found_of}
use Rattle.clap.specs.Walk.{rows_of}
use Rattle.command_spec.specs.Texts.{Texts, pairs_of, rows_give}
use Rattle.top_words.specs.declared.given.Given.{Given}
use Rattle.top_words.specs.declared.given.Given.TheVariants.{Plain, Parsed}
use Rattle.top_words.specs.Views.{bytes_of}

abbrev pub texts_of : Given → Texts
texts_of (Plain command arguments) = pairs_of command (bytes_of arguments.now)
texts_of (Parsed command matches) = rows_give (rows_of (found_of matches.now)) command
