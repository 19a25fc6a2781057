use Rattle.std.proofs.Common.{ℕ, Some, ◌≡◌, length, sym, ◌∙◌, subst, arith}
use Rattle.std.specs.Prelude.{IsSome}
use Rattle.std.proofs.lemmas.Option.{same_Some}
use Rattle.std.proofs.lemmas.List.{length-map}
use Rattle.path_trail.specs.Trail.{earlier_at}
use Rattle.age_exists.specs.Seen.{entry_seen, entries_seen}
use Rattle.age_exists.specs.FirstSteps.{NotesFirst}
use Rattle.age_exists.proofs.FirstSteps.{notes_edge, notes_nothing, earlier_seen}
use Rattle.age_exists.proofs.first_paths.note_first.Goals as goal
use Rattle.age_exists.proofs.first_paths.note_first.Goals.{else-from-to-via-then-from-to+then-place-steps+else-is_none, else-from-to-via-then-from-to+else-place-steps, else-from-to-via-else-from-to}

pub returns-then-is_none : goal.returns-then-is_none
returns-then-is_none c =
    let steps = c.args.steps.now in
    let from : ℕ = c.args.from in
    let to : ℕ = c.in-Some.to in
    subst (NotesFirst (entries_seen steps) _ from) (sym c.in-Some.is)
    (notes_edge steps from to _ c.if-place-steps.true c.if-from-to.true c.if-is_none.ensures)

pub returns-else-from-to : goal.returns-else-from-to
returns-else-from-to c =
    let steps = c.args.steps.now in
    let from : ℕ = c.args.from in
    let to : ℕ = c.in-Some.to in
    let named : (m : ℕ) → c.args.to ≡ Some m → to ≡ m = λ m is. same_Some to m (sym c.in-Some.is ∙ is) in
    let long : length (entries_seen steps) ≡ length steps = length-map steps entry_seen in
    notes_nothing (entries_seen steps) from c.args.to (λ m is up inside. elim c.else-from-to.branch [
      | else-from-to-via-then-from-to+then-place-steps+else-is_none w ↦
          subst (λ (k : ℕ). IsSome (earlier_at (entries_seen steps) k)) (named m is)
          (subst IsSome (sym (earlier_seen steps to _ w.if-place-steps.true)) w.if-is_none.ensures)
      | else-from-to-via-then-from-to+else-place-steps w ↦
          absurd (omega (arith, named m is, inside, long, w.if-place-steps.false))
      | else-from-to-via-else-from-to w ↦ absurd (omega (arith, named m is, up, w.if-from-to.false))
    ])
