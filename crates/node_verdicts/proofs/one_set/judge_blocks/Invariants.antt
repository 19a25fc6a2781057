use Rattle.node_verdicts.specs.Judged.{AreJudged}
use Rattle.node_verdicts.specs.Open.{AreUnclear, IsClearOpen}
use Rattle.node_verdicts.proofs.one_set.judge_blocks.Given as goal

-- the open fetches of the first blocks are judged, where none of the block's is unclear
abbrev pub invariant-loop-block : goal.invariant-loop-block
invariant-loop-block l = record {
  judged : AreJudged l.ages.view.nodes l.ages.view.geometry l.ages.start l.fn.kept (IsClearOpen l.ages l.block)
      l.found.judged.items;
  unclear : AreUnclear l.ages l.block l.found.unclear.items;
}
