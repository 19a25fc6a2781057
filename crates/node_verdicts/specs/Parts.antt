-- Parts of the sets of a cache, and what is found of them.
use Rattle.std.specs.Prelude.{◌≡◌, ℕ, ◌+◌, ◌<◌, ◌++◌, ◌∷◌, [], List, Option, Some, None, IfSome}
use Rattle.path_model.specs.declared.graph.Node.{Node}
use Rattle.node_verdicts.specs.declared.judged.Judged.{Judged}
use Rattle.node_verdicts.specs.declared.ranges.SetsFound.{SetsFound}
use Rattle.node_verdicts.specs.declared.ranges.SpanGraph.{SpanGraph}
use Rattle.node_verdicts.specs.declared.set_parts.SetsJob.{SetsJob}
use Rattle.node_verdicts.specs.declared.set_parts.PartFound.{PartFound}
use Rattle.node_verdicts.specs.declared.set_parts.Part.{Part}
use Rattle.node_verdicts.specs.declared.set_parts.Part.TheVariants.{Found, TooManyBlocks}
use Rattle.node_verdicts.specs.Low.{low_of}
use Rattle.node_verdicts.specs.Judged.{AreJudged, IsFetcherOf}
use Rattle.node_verdicts.specs.Found.{AreJobsWithin, IsClearWithin}
use Rattle.node_verdicts.specs.Noted.{AreVerdictsOf}
use Rattle.node_verdicts.specs.Ranges.{AreFew, HaveManyWithin, IsSpanGraph}

-- the first set of a part of a job; that of the next part is where it ends
abbrev pub first_of : SetsJob → ℕ → ℕ
first_of job part = low_of job.parts.size job.parts.sets part

-- the graph of the runs that a job goes over
abbrev pub runs_of : SetsJob → List Node
runs_of job = job.blocks.now.small

-- there are at most as many parts as sets, which are those of the cache
pub record IsPartNumber (job : SetsJob) (number : ℕ) : Type 0 where
  pub below : number < job.parts.sets
  pub sets_are : job.parts.sets ≡ job.geometry.sets

-- the nodes are judged that fetch a block of the part which isn't a job
abbrev pub ArePartJudged : SetsJob → ℕ → List Judged → Type 0
ArePartJudged job number = AreJudged (runs_of job) job.geometry job.start job.kept
    (IsFetcherOf (runs_of job) job.geometry
    (IsClearWithin (runs_of job) job.geometry job.start (first_of job number) (first_of job (number + 1))))

-- these are the jobs of the part, and few blocks are fetched of each of its sets
pub record ArePartJobs (job : SetsJob) (number : ℕ) (jobs : List ℕ) : Type 0 where
  pub are : AreJobsWithin (runs_of job) job.geometry job.start (first_of job number) (first_of job (number + 1)) jobs
  pub few : AreFew (runs_of job) job.geometry (first_of job number) (first_of job (number + 1))

-- this is what is found of the sets of a part
pub record AreSetsFound (job : SetsJob) (number : ℕ) (sets : SetsFound) : Type 0 where
  pub judged : ArePartJudged job number sets.found.judged.items
  pub jobs : ArePartJobs job number sets.found.jobs.items
  pub graph : IfSome sets.graph (IsSpanGraph (runs_of job) job.geometry)

-- the same as verdicts of the first nodes of runs
pub record IsPartFound (job : SetsJob) (number : ℕ) (part : PartFound) : Type 0 where
  pub judged : List Judged
  pub are : ArePartJudged job number judged
  pub verdicts : AreVerdictsOf job.blocks.now judged part.verdicts.items
  pub jobs : ArePartJobs job number part.jobs.items
  pub graph : IfSome part.graph (IsSpanGraph (runs_of job) job.geometry)

-- what is found of a part, or its first set with too many fetched blocks
abbrev pub IsPart : SetsJob → ℕ → Part → Type 0
IsPart job number (Found part) = IsPartFound job number part
IsPart job number (TooManyBlocks set count) =
    HaveManyWithin (runs_of job) job.geometry (first_of job number) (first_of job (number + 1)) set count

-- the graphs, with that of one more part if it has one
abbrev pub graphs_with : Option SpanGraph → List SpanGraph → List SpanGraph
graphs_with None graphs = graphs
graphs_with (Some graph) graphs = graphs ++ graph ∷ []
