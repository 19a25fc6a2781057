use Rattle.std.proofs.Common.{◌<◌, ◌≡◌, ℕ, List, [], Option, None, ap, get_or, arith, ◌∙◌}
use Rattle.std.proofs.lemmas.List.Elements.{All-get_or}
use Rattle.lattice_fix.specs.declared.change.Change.{Change}
use Rattle.path_trail.specs.Trail.{TrailEntry}
use Rattle.age_exists.specs.declared.retracing.Step.{Step}
use Rattle.age_exists.specs.Retraced.{Retraced}
use Rattle.age_exists.specs.Seen.{seen_as, entries_seen}
use Rattle.age_exists.proofs.Walked.{retracing_begins, retracing_more}
use Rattle.age_exists.proofs.retracing.retrace.Goals as goal

abbrev retraced : List TrailEntry → List (Option ℕ) → Retraced
retraced entries last = record { entries = entries; last = last }

both-same : (steps : List Step) (last none : List (Option ℕ)) → steps ≡ [] → last ≡ none
    → retraced (entries_seen steps) last ≡ retraced [] none
both-same steps last none one two =
    ap (λ (l : List Step). retraced (entries_seen l) last) one ∙ ap (λ (l : List (Option ℕ)). retraced [] l) two

-- a change that is never read
abbrev no_change : Change
no_change = record { node = 0; from = None }

pub loop-change-init : goal.loop-change-init
loop-change-init c =
    retracing_begins c.args.count c.args.changes.now
    (seen_as (record { entries = c.new.result; last = c.in_ok-no_last.field-0 }))
    (both-same c.new.result.items c.in_ok-no_last.field-0.items _ c.new.ensures.items c.in_ok-no_last.ensures)

pub loop-change-preserved : goal.loop-change-preserved
loop-change-preserved c =
    retracing_more c.args.count c.args.changes.now c.loop-change.change-index (seen_as c.loop-change.steps)
    (seen_as c.note.new.steps) no_change c.loop-change.invariant c.loop-change-test.true c.in_ok-note.ensures

pub note-requires : goal.note-requires
note-requires c =
    let below : (get_or c.args.changes.now c.loop-change.change-index no_change).node < c.args.count =
    All-get_or (λ (change : Change). change.node < c.args.count) c.args.changes.now c.loop-change.change-index no_change
    c.loop-change-test.true c.requires in
    omega (arith, below, c.loop-change.invariant.one_each)
