use Rattle.std.proofs.Common.{subst, List}
use Rattle.call_expand.specs.declared.point.Point.{Point}
use Rattle.call_expand.specs.Numbers.{AreApart}
use Rattle.call_expand.proofs.Numbered.{apart-numbers}
use Rattle.call_expand.proofs.known.Known.into_points.Goals as goal

pub returns-clause-apart : goal.returns-clause-apart
returns-clause-apart c =
    let P : List Point → Type 0 = AreApart in
    subst P c.self.view_is (apart-numbers c.self.inside.points.items c.self.inside.numbers c.self.invariant)
