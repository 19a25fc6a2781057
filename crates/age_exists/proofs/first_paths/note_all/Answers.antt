use Rattle.std.proofs.lemmas.Option.{slice_get-get_or}
use Rattle.age_exists.proofs.FirstSteps.{found_more}
use Rattle.age_exists.proofs.first_paths.note_all.Goals as goal

pub loop-index-preserved : goal.loop-index-preserved
loop-index-preserved c =
    found_more _ _ _ _ _ _ (slice_get-get_or c.args.nodes.now c.loop-index.index _ c.loop-index-test.true)
    c.note_first.ensures c.note_first-in-loop-index.ensures c.loop-index.invariant
