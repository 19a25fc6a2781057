use Rattle.std.proofs.Common.{true≢false, refl, sym, ◌∙◌}
use Rattle.plain_family.proofs.Smaller.{IsSmaller, minimal_from_none, not_minimal}
use Rattle.plain_family.proofs.Walk.{NoneHas-more, NoneHas-all}
use Rattle.plain_family.proofs.is_minimal.Goals as goal

pub loop-other-preserved : goal.loop-other-preserved
loop-other-preserved c =
    NoneHas-more (λ t. IsSmaller t c.args.set.now) c.args.sets.now c.loop-other.other-index c.other-item.result
    c.loop-other-test.true c.other-item.is c.loop-other.invariant
    (λ smaller. true≢false (sym (c.is_smaller_subset.ensures.1 smaller) ∙ c.if-is_smaller_subset.false))

pub returns-then-is_smaller_subset : goal.returns-then-is_smaller_subset
returns-then-is_smaller_subset c = (
  λ same. absurd (true≢false (sym same)),
  λ minimal. absurd (not_minimal c.args.sets.now c.args.set.now c.other-item.result
      (c.loop-other.other-index, c.loop-other-test.true, sym c.other-item.is)
      (c.is_smaller_subset.ensures.0 c.if-is_smaller_subset.true) minimal),
)

pub returns : goal.returns
returns c = (
  λ _. minimal_from_none c.args.sets.now c.args.set.now c.requires.sets c.requires.set
      (NoneHas-all (λ t. IsSmaller t c.args.set.now) c.args.sets.now c.loop-other.other-index c.loop-other-test.false
      c.loop-other.invariant),
  λ _. refl,
)
