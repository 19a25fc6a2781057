use Rattle.std.proofs.Common.{◌+◌, Bool, Vec, Global, subst, sym}
use Rattle.age_exists.specs.Unclear.{AreMarks, numbers_of}
use Rattle.age_exists.proofs.Marking.{marks_more, marks_kept}
use Rattle.age_exists.proofs.unclear_fetches.marks_of.Goals as goal
use Rattle.age_exists.proofs.unclear_fetches.marks_of.Goals.{in-Some, in_default}

pub loop-node-preserved : goal.loop-node-preserved
loop-node-preserved c =
    let view = c.args.view.now in
    let f = numbers_of c.args.must.now c.args.may.now c.args.hit.now.columns c.args.miss.now.columns in
    let n = c.loop-node.node in
    elim c.match-unclear_at.branch [
      | in-Some w ↦
          subst (λ (marks : Vec Bool Global). AreMarks view f (n + 1) marks.items) (sym w.marks-is)
          (marks_more view f n w.in-Some.local c.loop-node.marks.items c.loop-node.invariant
          (sym w.in-Some.ensures.value) w.in-Some.ensures.known)
      | in_default w ↦
          subst (λ (marks : Vec Bool Global). AreMarks view f (n + 1) marks.items) (sym w.marks-is)
          (marks_kept view f n c.loop-node.marks.items c.loop-node.invariant (sym w.in_default.ensures.value))
    ]
