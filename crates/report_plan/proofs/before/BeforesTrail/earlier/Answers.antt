use Rattle.std.proofs.Common.{◌≡◌, ℕ, ◌<◌, List, length, Some, sym, ap, ◌∙◌, arith}
use Rattle.std.proofs.Math.ListN.{get_or}
use Rattle.std.proofs.lemmas.List.{get_or_read}
use Rattle.report_plan.proofs.Back.{length-entries, earlier_at-entries, before_of-later}
use Rattle.report_plan.proofs.before.BeforesTrail.earlier.Goals as goal

pub index-requires : goal.index-requires
index-requires c =
    omega (arith, c.requires, length-entries c.args.self.now, ap length c.self.view_is, c.self.inside.0.ok)

pub returns : goal.returns
returns c =
    let before = c.args.self.now in
    let number = c.args.entry in
    let kept = c.self.inside.0.items in
    let inside : number < length before = omega (arith, c.requires, length-entries before) in
    let there : number < length kept = omega (arith, inside, ap length c.self.view_is) in
    let read : c.index.result.now ≡ get_or before number 0 =
    get_or_read kept number _ there c.index.ensures 0
    ∙ ap (λ (numbers : List ℕ). get_or numbers number 0) c.self.view_is in
    ap Some read ∙ sym (earlier_at-entries before number inside ∙ before_of-later before number c.if-entry-eq0.false)
