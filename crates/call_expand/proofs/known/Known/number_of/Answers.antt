use Rattle.std.proofs.Common.{◌∙◌}
use Rattle.call_expand.proofs.Numbered.{number-found}
use Rattle.call_expand.proofs.known.Known.number_of.Goals as goal

pub returns : goal.returns
returns c =
    rw (← c.self.view_is)
    (number-found c.self.inside.points.items c.self.inside.numbers c.self.invariant c.args.point c.copied.result
    (c.copied.ensures ∙ c.get.ensures.value))
