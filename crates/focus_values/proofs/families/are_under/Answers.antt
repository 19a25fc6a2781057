use Rattle.std.proofs.Common.{List, ℕ, Contains, true≢false, refl, sym, subst}
use Rattle.focus_values.specs.Families.{HasOver}
use Rattle.focus_values.proofs.Walked.{EachHas-more, EachHas-all}
use Rattle.focus_values.proofs.families.are_under.Goals as goal

pub loop-set-preserved : goal.loop-set-preserved
loop-set-preserved c =
    let has = subst (λ (others : List (List ℕ)). HasOver others c.set-item.result) c.sets.ensures.value
    (c.if-not-is_in_one.ensures.0 refl) in
    EachHas-more (HasOver c.args.others.now) c.sets-set-items.result.now c.loop-set.set-index c.set-item.result
    c.loop-set-test.true c.set-item.is c.loop-set.invariant has

pub returns-then-not-is_in_one : goal.returns-then-not-is_in_one
returns-then-not-is_in_one c = (
  λ same. absurd (true≢false (sym same)),
  λ each.
      let there : Contains c.sets-set-items.result.now c.set-item.result =
      (c.loop-set.set-index, c.loop-set-test.true, sym c.set-item.is) in
      let has = each c.set-item.result (subst (λ (sets : List (List ℕ)). Contains sets c.set-item.result)
      c.sets-set-items.ensures.value there) in
      c.if-not-is_in_one.ensures.1 (subst (λ (others : List (List ℕ)). HasOver others c.set-item.result)
      (sym c.sets.ensures.value) has),
)

pub returns : goal.returns
returns c = (
  λ _. rw (← c.sets-set-items.ensures.value)
      (EachHas-all (HasOver c.args.others.now) c.sets-set-items.result.now c.loop-set.set-index c.loop-set-test.false
      c.loop-set.invariant),
  λ _. refl,
)
