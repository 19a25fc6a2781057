use Rattle.std.proofs.Common.{◌∙◌}
use Rattle.std.proofs.Math.Bool.{and-true}
use Rattle.cache_spec.specs.Geometry.{is_line}
use Rattle.top_words.proofs.settings.is_line.Goals as goal

pub returns : goal.returns
unfolding lib.Count.ones
returns c = c.is_some.ensures ∙ c.new.ensures.in_range ∙ and-true (is_line c.args.line)
