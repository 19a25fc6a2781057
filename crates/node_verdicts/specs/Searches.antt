-- Blocks that are searched, and what is found of them.
use Rattle.std.specs.Prelude.{◌≡◌, ℕ, ◌<◌, List, length, slice_index}
use Rattle.std.specs.List.{All}
use Rattle.node_verdicts.specs.declared.judged.Judged.{Judged}
use Rattle.node_verdicts.specs.declared.noting.HeadVerdict.{HeadVerdict}
use Rattle.node_verdicts.specs.declared.block_jobs.BlockJob.{BlockJob}
use Rattle.node_verdicts.specs.Judged.{AreJudged, IsFetcherOf}
use Rattle.node_verdicts.specs.Noted.{AreVerdictsOf}
use Rattle.node_verdicts.specs.Ranges.{AreFew, IsSpanGraph}

-- the number is that of a block, few blocks are fetched of each set, and the graphs are for sets of the graph of the runs
pub record IsBlockJob (job : BlockJob) (number : ℕ) : Type 0 where
  pub inside : number < length job.jobs.now
  pub few : AreFew job.blocks.now.small job.geometry 0 job.geometry.sets
  pub graphs : All (IsSpanGraph job.blocks.now.small job.geometry) job.graphs.now

-- these are the verdicts of the first nodes of the runs that fetch the block of this number
pub record IsSearched (job : BlockJob) (number : ℕ) (heads : List HeadVerdict) : Type 0 where
  pub judged : List Judged
  pub are : AreJudged job.blocks.now.small job.geometry job.start job.kept
      (IsFetcherOf job.blocks.now.small job.geometry (λ block. block ≡ slice_index job.jobs.now number)) judged
  pub verdicts : AreVerdictsOf job.blocks.now judged heads
