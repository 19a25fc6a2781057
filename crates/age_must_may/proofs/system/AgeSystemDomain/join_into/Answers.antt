use Rattle.std.proofs.Common.{◌≡◌, ℕ, length, take, drop, ◌++◌, sym, subst, arith}
use Rattle.std.proofs.lemmas.Grind.{common_steps}
use Rattle.age_spec.specs.Ages.{AreAges, all_met}
use Rattle.age_spec.proofs.Monotone.{met_ages}
use Rattle.age_must_may.proofs.system.AgeSystemDomain.join_into.Goals as goal

pub returns-clause-fits : goal.returns-clause-fits
returns-clause-fits c =
    let view = c.args.self.now.view.now in
    let kind = c.args.self.now.kind in
    let k : ℕ = view.geometry.ways in
    let count : ℕ = length view.blocks in
    let same : take c.args.into.now.len (c.meet.new.ages ++ drop (length c.meet.new.ages) c.args.into.now.items)
    ≡ all_met kind c.args.into.now.items c.args.other.now.items = grind (arith, common_steps) in
    subst (AreAges count k) (sym same)
    (met_ages kind count k c.args.into.now.items c.args.other.now.items c.requires.into c.requires.other)
