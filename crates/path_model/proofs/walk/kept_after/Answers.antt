use Rattle.std.proofs.Common.{◌∙◌, arith}
use Rattle.path_model.proofs.Kept.{kept_more}
use Rattle.path_model.proofs.walk.kept_after.Goals as goal

pub loop-number-preserved : goal.loop-number-preserved
loop-number-preserved c = (
  kept_more _ _ _ c.args.path.now _ c.loop-number.number-index 0 _ _ _ _ (omega arith) c.address_of.ensures
      c.loop-number.invariant.1 c.loop-number.invariant.0 c.fetch.ensures.blocks,
  c.fetch.ensures.ways ∙ c.loop-number.invariant.1,
)
