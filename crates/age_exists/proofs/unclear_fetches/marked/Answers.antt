use Rattle.std.proofs.Common.{◌≡◌, ℕ, ◌+◌, true, List, Vec, Global, subst, sym, ◌∙◌, true≢false}
use Rattle.age_exists.specs.Unclear.{AreMarked}
use Rattle.age_exists.specs.Unclear.{mark_at}
use Rattle.age_exists.proofs.Those.{those_more, those_kept}
use Rattle.age_exists.proofs.unclear_fetches.marked.Goals as goal
use Rattle.age_exists.proofs.unclear_fetches.marked.Goals.{then-marks-place+in_ok-push, else-marks-place}

pub loop-place-preserved : goal.loop-place-preserved
loop-place-preserved c =
    let marks = c.args.marks.now in
    let place : ℕ = c.loop-place.place in
    let locals : List ℕ = c.loop-place.locals.items in
    let IsSet : ℕ → Type 0 = λ k. mark_at marks k ≡ true in
    elim c.if-marks-place.branch [
      | then-marks-place+in_ok-push w ↦
          subst (λ (locals : Vec ℕ Global). AreMarked marks (place + 1) locals.items) (sym w.locals-is)
          (subst (AreMarked marks (place + 1)) (sym w.in_ok-push.ensures.items)
          (those_more IsSet place locals c.loop-place.invariant w.if-marks-place.true))
      | else-marks-place w ↦
          subst (λ (locals : Vec ℕ Global). AreMarked marks (place + 1) locals.items) (sym w.locals-is)
          (those_kept IsSet place locals c.loop-place.invariant
          (λ set. true≢false (sym set ∙ w.if-marks-place.false)))
    ]
