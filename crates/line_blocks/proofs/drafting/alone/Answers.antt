use Rattle.line_blocks.proofs.Single.{alone_none}
use Rattle.line_blocks.proofs.drafting.alone.Goals as goal

pub loop-node-init : goal.loop-node-init
loop-node-init c = alone_none c.new-numbers.result.items c.new-runs.result.items c.new-numbers.ensures.items
    c.new-runs.ensures.items
