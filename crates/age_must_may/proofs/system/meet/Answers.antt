use Rattle.std.proofs.Common.{ℕ, ◌<◌, ◌+◌, Bool, List, length, slice_set, sym, subst, arith}
use Rattle.age_must_may.proofs.Meeting.{IsMeeting, meeting-begins, meeting-stays, meeting-writes, meeting-ends, meeting-raised}
use Rattle.age_must_may.proofs.system.meet.Goals as goal
use Rattle.age_must_may.proofs.system.meet.Goals.{then-age-ages, else-age-ages}

pub loop-local-init : goal.loop-local-init
loop-local-init c = meeting-begins c.args.kind c.args.ages.now c.args.others.now

pub loop-local-preserved : goal.loop-local-preserved
loop-local-preserved c =
    let kind = c.args.kind in
    let i : ℕ = c.loop-local.local in
    let before : List ℕ = c.args.ages.now in
    let others : List ℕ = c.args.others.now in
    let now : List ℕ = c.loop-local.ages in
    let inside : i < length now = omega arith in
    elim c.if-age-ages.branch [
      | then-age-ages w ↦
          subst (λ (ages : List ℕ). IsMeeting kind (i + 1) before others ages c.if-age-ages.raised) (sym w.ages-is)
          (subst (λ (r : Bool). IsMeeting kind (i + 1) before others (slice_set now i c.met-age.result) r) (sym w.raised-is)
          (meeting-writes kind i before others now c.loop-local.raised c.met-age.result c.loop-local.invariant inside
          c.met-age.ensures w.if-age-ages.true))
      | else-age-ages w ↦
          subst (λ (ages : List ℕ). IsMeeting kind (i + 1) before others ages c.if-age-ages.raised) (sym w.ages-is)
          (subst (λ (r : Bool). IsMeeting kind (i + 1) before others now r) (sym w.raised-is)
          (meeting-stays kind i before others now c.loop-local.raised c.met-age.result c.loop-local.invariant
          c.met-age.ensures w.if-age-ages.false))
    ]

pub returns-clause-ages : goal.returns-clause-ages
returns-clause-ages c =
    meeting-ends c.args.kind c.loop-local.local c.args.ages.now c.args.others.now c.loop-local.ages c.loop-local.raised
    c.loop-local.invariant c.requires c.loop-local-test.false

pub returns-clause-raised : goal.returns-clause-raised
returns-clause-raised c =
    meeting-raised c.args.kind c.loop-local.local c.args.ages.now c.args.others.now c.loop-local.ages c.loop-local.raised
    c.loop-local.invariant c.loop-local-test.false
