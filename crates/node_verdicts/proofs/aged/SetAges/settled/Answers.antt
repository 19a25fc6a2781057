use Rattle.std.proofs.Common.{◌≡◌, ◌<◌, sym, ◌∙◌, subst, arith}
use Rattle.node_verdicts.specs.Aged.{Aged, AreAges}
use Rattle.node_verdicts.proofs.ByAges.{hits_by_must, misses_by_may, open_else}
use Rattle.node_verdicts.proofs.aged.SetAges.settled.Goals as goal
use Rattle.age_spec.specs.Ages.{age_of}

pub returns-then-age-ways-clause-some : goal.returns-then-age-ways-clause-some
returns-then-age-ways-clause-some c =
    let a : Aged = c.args.self.now in
    let are : AreAges a = subst AreAges c.self.view_is c.self.invariant in
    let young : age_of a.must c.args.node c.args.block < a.view.geometry.ways =
    subst (λ (b : Aged). age_of b.must c.args.node c.args.block < b.view.geometry.ways) c.self.view_is
    (omega (arith, c.if-age-ways.true, c.age.ensures, c.ways-ways.ensures.same)) in
    (hits_by_must a are c.args.block c.args.node c.requires.fetches young, λ is. omega (arith, is.not_hit, young))

pub returns-then-age-ways-2-clause-some : goal.returns-then-age-ways-2-clause-some
returns-then-age-ways-2-clause-some c =
    let a : Aged = c.args.self.now in
    let are : AreAges a = subst AreAges c.self.view_is c.self.invariant in
    let old : age_of a.may c.args.node c.args.block ≡ a.view.geometry.ways =
    subst (λ (b : Aged). age_of b.may c.args.node c.args.block ≡ b.view.geometry.ways) c.self.view_is
    (sym c.age-else-age-ways.ensures ∙ c.if-age-ways-2.true ∙ c.ways-ways.ensures.same) in
    (misses_by_may a are c.args.block c.args.node c.requires.fetches old, λ is. omega (arith, is.not_miss, old))

pub returns-else-age-ways-2-clause-none : goal.returns-else-age-ways-2-clause-none
returns-else-age-ways-2-clause-none c =
    let a : Aged = c.args.self.now in
    let are : AreAges a = subst AreAges c.self.view_is c.self.invariant in
    let must = subst (λ (b : Aged). age_of b.must c.args.node c.args.block < b.view.geometry.ways → ⊥) c.self.view_is
    (λ less. omega (arith, c.if-age-ways.false, c.age.ensures, c.ways-ways.ensures.same, less)) in
    let may = subst (λ (b : Aged). age_of b.may c.args.node c.args.block ≡ b.view.geometry.ways → ⊥) c.self.view_is
    (λ same. omega (arith, c.if-age-ways-2.false, c.age-else-age-ways.ensures, c.ways-ways.ensures.same, same)) in
    open_else a are c.args.block c.args.node c.requires.fetches must may
