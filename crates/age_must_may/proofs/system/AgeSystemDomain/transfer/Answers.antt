use Rattle.std.proofs.Common.{◌≡◌, ℕ, Option, length, sym, subst}
use Rattle.std.proofs.lemmas.Result.{IfOk-weaker}
use Rattle.focus_spec.specs.Younger.{fetch_at}
use Rattle.age_spec.specs.Ages.{AreAges, ages_after}
use Rattle.age_spec.proofs.Monotone.{after_ages}
use Rattle.age_must_may.proofs.system.AgeSystemDomain.transfer.Goals as goal

pub returns-clause-fits : goal.returns-clause-fits
returns-clause-fits c =
    let view = c.args.self.now.view.now in
    let kind = c.args.self.now.kind in
    let k : ℕ = view.geometry.ways in
    let count : ℕ = length view.blocks in
    let fetch : Option ℕ = fetch_at view.fetches c.args.node in
    let are : AreAges count k c.deref.result.now = subst (AreAges count k) (sym c.deref.ensures.value) c.requires in
    IfOk-weaker c.moved.result (λ after. after.items ≡ ages_after kind k fetch c.deref.result.now)
    (λ after. AreAges count k after.items)
    (λ after same. subst (AreAges count k) (sym same) (after_ages kind count k fetch c.deref.result.now are))
    c.moved.ensures
