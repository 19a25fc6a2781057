use Rattle.std.proofs.Common.{Bool, List, length, subst}
use Rattle.age_exists.specs.Unclear.{numbers_of, AreMarked}
use Rattle.age_exists.proofs.Unsettled.{marked_unclear}
use Rattle.age_exists.proofs.unclear_fetches.unclear.Goals as goal

pub returns-clause-members : goal.returns-clause-members
returns-clause-members c =
    let locals = c.in_ok-locals.locals.items in
    let f = numbers_of c.args.must.now c.args.may.now c.args.hit.now.columns c.args.miss.now.columns in
    marked_unclear c.args.view.now c.blocks-blocks.ensures.view c.args.hit.now.start f c.requires.must c.requires.may
    c.requires.hit c.requires.miss c.in_ok-marks.marks.items locals c.in_ok-marks.ensures.marks
    (subst (λ (marks : List Bool). AreMarked marks (length marks) locals) c.deref.ensures.value c.in_ok-locals.ensures)
