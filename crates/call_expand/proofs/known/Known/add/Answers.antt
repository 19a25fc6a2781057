use Rattle.std.proofs.Common.{sym, ◌∙◌, ap, ◌++◌, ◌∷◌, [], subst, List, length, arith, ◌≡◌}
use Rattle.call_expand.specs.declared.point.Point.{Point}
use Rattle.call_expand.specs.Numbers.{AreNumbers}
use Rattle.call_expand.proofs.Numbered.{numbers-push}
use Rattle.call_expand.proofs.known.Known.add.Goals as goal

pub invariant_of-self-2 : goal.invariant_of-self-2
invariant_of-self-2 c =
    let P : List Point → Type 0 = λ points. AreNumbers points c.insert.new.self in
    let points = c.self.inside.points in
    let number : c.len-number.result ≡ length points.items = omega (arith, c.len-number.ensures, points.ok) in
    subst P (sym (c.push_reserved.ensures.items ∙ ap (λ ps. ps ++ c.args.point ∷ []) c.in_ok-reserve.ensures.items))
    (numbers-push points.items c.self.inside.numbers c.insert.new.self c.args.point c.len-number.result number
    c.self.invariant (rw c.self.view_is c.requires.new) c.in_ok-insert.ensures.updates)
