use Rattle.std.proofs.lemmas.Option.{slice_get-get_or}
use Rattle.report_plan.proofs.Notes.{note-made, none-noted, noted-more}
use Rattle.report_plan.proofs.before.note_all.Goals as goal

pub loop-index-init : goal.loop-index-init
loop-index-init c = none-noted c.args.nodes.now c.args.before.now c.requires.none

pub loop-index-preserved : goal.loop-index-preserved
loop-index-preserved c =
    let found = slice_get-get_or c.args.nodes.now c.loop-index.index _ c.loop-index-test.true in
    noted-more _ _ _ _ _ _ found (note-made _ _ _ _ c.note.ensures) (note-made _ _ _ _ c.note-in-loop-index.ensures)
    c.loop-index.invariant
