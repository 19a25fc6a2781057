use Rattle.node_verdicts.proofs.Lifted.{ends_paths}
use Rattle.node_verdicts.proofs.set_parts.SetsJob.found.Goals as goal

pub verdicts_of-requires : goal.verdicts_of-requires
verdicts_of-requires c one there =
    ends_paths c.args.self.now.blocks.now.small c.args.self.now.geometry c.args.self.now.start one.node one.ends
    (c.requires.judged.right one there)
