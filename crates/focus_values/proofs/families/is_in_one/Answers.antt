use Rattle.std.proofs.Common.{true≢false, refl, sym, ◌∙◌}
use Rattle.set_list.specs.SetList.{IsSubset}
use Rattle.plain_family.proofs.Walk.{NoneHas-more, NoneHas-all}
use Rattle.focus_values.proofs.families.is_in_one.Goals as goal

pub loop-other-preserved : goal.loop-other-preserved
loop-other-preserved c =
    NoneHas-more (λ t. IsSubset c.args.set.now t) c.args.others.now c.loop-other.other-index c.other-item.result
    c.loop-other-test.true c.other-item.is c.loop-other.invariant
    (λ subset. true≢false (sym (c.is_subset.ensures.1 subset) ∙ c.if-is_subset.false))

pub returns-then-is_subset : goal.returns-then-is_subset
returns-then-is_subset c = (
  λ _. (
    c.other-item.result,
    (c.loop-other.other-index, c.loop-other-test.true, sym c.other-item.is),
    c.is_subset.ensures.0 c.if-is_subset.true,
  ),
  λ _. refl,
)

pub returns : goal.returns
returns c = (
  λ same. absurd (true≢false (sym same)),
  λ some. absurd (NoneHas-all (λ t. IsSubset c.args.set.now t) c.args.others.now c.loop-other.other-index
      c.loop-other-test.false c.loop-other.invariant some.0 some.1 some.2),
)
