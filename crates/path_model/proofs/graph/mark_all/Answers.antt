use Rattle.std.proofs.Common.{arith}
use Rattle.std.proofs.lemmas.Option.{slice_get-get_or}
use Rattle.path_model.proofs.Marked.{marked_more}
use Rattle.path_model.proofs.graph.mark_all.Goals as goal

pub loop-index-init : goal.loop-index-init
loop-index-init c = record {
  sound = λ m marked. absurd (cc (c.requires m));
  complete = λ n m within up below leads. absurd (omega arith);
}

pub loop-index-preserved : goal.loop-index-preserved
loop-index-preserved c =
    let found = slice_get-get_or c.args.nodes.now c.loop-index.index _ c.loop-index-test.true in
    marked_more _ _ _ _ _ _ found c.mark.ensures c.mark-in-loop-index.ensures c.loop-index.invariant
