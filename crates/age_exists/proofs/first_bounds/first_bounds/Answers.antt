use Rattle.std.proofs.Common.{◌≡◌, ◌<◌, ℕ, ◌+◌, ◌++◌, ◌∷◌, [], List, length, get_or, Option, None, sym, ap, ◌∙◌, subst, arith}
use Rattle.std.specs.Prelude.{IfSome}
use Rattle.std.proofs.lemmas.List.{length-map}
use Rattle.lattice_fix.specs.Framework.{Framework}
use Rattle.path_trail.specs.Trail.{TrailEntry, earlier_at}
use Rattle.age_exists.specs.declared.retracing.Step.{Step}
use Rattle.age_exists.specs.Equations.{framework_of, setting_with}
use Rattle.age_exists.specs.FirstBounds.{AreFirstBounds, moved_from}
use Rattle.age_exists.specs.Seen.{entry_seen, entries_seen}
use Rattle.age_exists.proofs.FirstSteps.{earlier_seen}
use Rattle.age_exists.proofs.FirstBounds.{earlier_inside, bounds_more}
use Rattle.age_exists.proofs.first_bounds.first_bounds.Goals as goal

-- a step that is never read
abbrev no_step : Step
no_step = record { node = 0; earlier = None }

pub moved_from-requires : goal.moved_from-requires
moved_from-requires c =
    let system = c.args.system.now in
    let F : Framework ℕ =
    framework_of (setting_with system.hits system.view.now system.start system.own.now system.block) in
    let steps = c.args.firsts.now in
    let firsts : List TrailEntry = entries_seen steps in
    let n : ℕ = c.loop-step.step-index in
    let before : Option ℕ = (get_or steps n no_step).earlier in
    let inside : n < length firsts = omega (arith, c.loop-step-test.true, length-map steps entry_seen) in
    let long : n ≡ length c.deref.result.now =
    sym c.loop-step.invariant.one_each ∙ ap length (sym c.deref.ensures.value) in
    subst (λ (k : ℕ). IfSome before (λ entry. entry < k)) long
    (subst (λ (o : Option ℕ). IfSome o (λ entry. entry < n)) (earlier_seen steps n no_step c.loop-step-test.true)
    (earlier_inside F system.view.now.nodes firsts c.requires n inside))

pub loop-step-preserved : goal.loop-step-preserved
loop-step-preserved c =
    let system = c.args.system.now in
    let F : Framework ℕ =
    framework_of (setting_with system.hits system.view.now system.start system.own.now system.block) in
    let steps = c.args.firsts.now in
    let firsts : List TrailEntry = entries_seen steps in
    let n : ℕ = c.loop-step.step-index in
    let bounds : List ℕ = c.loop-step.bounds.items in
    let inside : n < length firsts = omega (arith, c.loop-step-test.true, length-map steps entry_seen) in
    let moved : c.moved_from.result ≡ moved_from F bounds (earlier_at firsts n) =
    c.moved_from.ensures
    ∙ (ap (λ (l : List ℕ). moved_from F l (get_or steps n no_step).earlier) c.deref.ensures.value
    ∙ ap (moved_from F bounds) (sym (earlier_seen steps n no_step c.loop-step-test.true))) in
    let made : c.push.new.self.items ≡ bounds ++ moved_from F bounds (earlier_at firsts n) ∷ [] =
    c.in_ok-push.ensures.items ∙ ap (λ (x : ℕ). bounds ++ x ∷ []) moved in
    subst (AreFirstBounds F firsts (n + 1)) (sym made)
    (bounds_more F system.view.now.nodes firsts c.requires n inside bounds c.loop-step.invariant)
