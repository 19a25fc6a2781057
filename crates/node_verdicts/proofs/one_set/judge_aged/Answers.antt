use Rattle.std.proofs.Common.{ℕ, ◌∙◌, List, length, map, ap, subst, arith}
use Rattle.std.specs.List.{Contains}
use Rattle.focus_spec.specs.Younger.{named}
use Rattle.node_verdicts.specs.Aged.{Aged, AreAges, IsSettled}
use Rattle.node_verdicts.specs.Judged.{AreJudged}
use Rattle.node_verdicts.proofs.Looked.{judged_beside, jobs_unclear}
use Rattle.node_verdicts.proofs.one_set.judge_aged.Goals as goal

pub numbers_of-requires : goal.numbers_of-requires
numbers_of-requires c place there =
    let unclear = (c.in_ok-open.ensures.unclear.members place).0
    (subst (λ (xs : List ℕ). Contains xs place) c.deref-2.ensures.value there) in
    omega (
      arith,
      unclear.0,
      ap length c.blocks-blocks.ensures.same,
      ap (λ (b : Aged). length b.view.blocks) c.ages.view_is,
    )

pub returns-clause-judged : goal.returns-clause-judged
returns-clause-judged c =
    let a : Aged = c.args.ages.now in
    let are : AreAges a = subst AreAges c.ages.view_is c.ages.invariant in
    judged_beside a are c.args.kept c.in_ok-open.open.unclear.items c.in_ok-judged.judged.items
    c.in_ok-open.open.judged.items c.append.new.self.items c.in_ok-open.ensures.unclear
    (subst (λ (xs : List ℕ). AreJudged a.view.nodes a.view.geometry a.start c.args.kept (IsSettled a xs)
    c.in_ok-judged.judged.items) c.deref.ensures.value (c.in_ok-judged.ensures c.args.kept))
    c.in_ok-open.ensures.judged c.in_ok-append.ensures.items

pub returns-clause-jobs : goal.returns-clause-jobs
returns-clause-jobs c =
    let a : Aged = c.args.ages.now in
    let unclear : List ℕ = c.in_ok-open.open.unclear.items in
    jobs_unclear a unclear c.in_ok-jobs.jobs.items c.in_ok-open.ensures.unclear
    (c.in_ok-jobs.ensures
    ∙ (ap (map (named c.blocks-blocks.result.now)) c.deref-2.ensures.value
    ∙ ap (λ (blocks : List ℕ). map (named blocks) unclear)
    (c.blocks-blocks.ensures.same ∙ ap (λ (b : Aged). b.view.blocks) c.ages.view_is)))
