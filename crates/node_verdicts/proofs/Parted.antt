-- What is found of the parts of the sets, put together.
use Rattle.std.proofs.Common.{◌≡◌, ℕ, ◌+◌, ◌<◌, ◌≤◌, ◌++◌, [], List, Option, Some, None, length, replicate, refl, sym, subst, arith}
use Rattle.std.specs.Prelude.{IfSome}
use Rattle.std.specs.List.{All, Contains}
use Rattle.std.proofs.lemmas.List.Elements.{All-push}
use Rattle.line_blocks.specs.Runs.{Runs, AreRuns}
use Rattle.line_blocks.proofs.Blocks.{as_many}
use Rattle.path_model.specs.declared.graph.Node.{Node}
use Rattle.node_spec.specs.declared.verdict.NodeVerdict.{NodeVerdict}
use Rattle.node_spec.specs.declared.verdict.NodeVerdict.TheVariants as verdicts
use Rattle.node_verdicts.specs.declared.judged.Judged.{Judged}
use Rattle.node_verdicts.specs.declared.noting.HeadVerdict.{HeadVerdict}
use Rattle.node_verdicts.specs.declared.ranges.SetsFound.{SetsFound}
use Rattle.node_verdicts.specs.declared.ranges.SpanGraph.{SpanGraph}
use Rattle.node_verdicts.specs.declared.set_parts.SetsJob.{SetsJob}
use Rattle.node_verdicts.specs.declared.set_parts.PartFound.{PartFound}
use Rattle.node_verdicts.specs.Judged.{AreJudged, IsFetcherOf}
use Rattle.node_verdicts.specs.Found.{AreJobsWithin, IsClearWithin}
use Rattle.node_verdicts.specs.Noted.{AreVerdictsOf, IsNoted, with_heads}
use Rattle.node_verdicts.specs.Low.{low_of}
use Rattle.node_verdicts.specs.Parts.{first_of, runs_of, AreSetsFound, IsPartFound, graphs_with}
use Rattle.node_verdicts.specs.Ranges.{AreFew, IsSpanGraph}
use Rattle.node_verdicts.proofs.Jobs.{jobs_none, jobs_both}
use Rattle.node_verdicts.proofs.Noted.{noted_none, noted_more}
use Rattle.node_verdicts.proofs.Spans.{few_both, judged_empty, judged_parts}

-- the verdicts of judged runs are those of nodes of the whole graph
pub heads_inside : (r : Runs) → AreRuns r → (judged : List Judged) (heads : List HeadVerdict)
    → ((one : Judged) → Contains judged one → one.node < length r.small) → AreVerdictsOf r judged heads
    → (head : HeadVerdict) → Contains heads head → head.node < length r.nodes
heads_inside r are judged heads within verdicts head there =
    let (one, among, goes) = verdicts.none_else head there in
    omega (
      arith,
      (are.plan.2 one.node (let e : one.node < length r.runs = omega (arith, within one among, as_many r are) in e)).0,
      goes.node,
    )

-- a part ends where the next one begins, and not before it begins
part_rises : (size sets part : ℕ) → low_of size sets part ≤ low_of size sets (part + 1)
part_rises size sets part = grind arith

-- the first `count` parts of a job are sifted
pub record AreSifted (job : SetsJob) (count : ℕ) (found : List NodeVerdict) (jobs : List ℕ) (graphs : List SpanGraph)
    : Type 0 where
  pub noted : IsNoted job.blocks.now job.geometry job.start job.kept
      (IsFetcherOf (runs_of job) job.geometry (IsClearWithin (runs_of job) job.geometry job.start 0 (first_of job count)))
      found
  pub jobs_are : AreJobsWithin (runs_of job) job.geometry job.start 0 (first_of job count) jobs
  pub few : AreFew (runs_of job) job.geometry 0 (first_of job count)
  pub graphs_are : All (IsSpanGraph (runs_of job) job.geometry) graphs

-- at first there is nothing
pub sifted_none : (job : SetsJob) (found : List NodeVerdict) (jobs : List ℕ) (graphs : List SpanGraph)
    → found ≡ replicate (length job.blocks.now.nodes) verdicts.Hits → jobs ≡ [] → graphs ≡ []
    → AreSifted job 0 found jobs graphs
sifted_none job found jobs graphs hits no_jobs no_graphs = record {
  noted = record {
    judged = [];
    are = judged_empty (runs_of job) job.geometry job.start job.kept 0 (first_of job 0) [] refl
        (λ n fetcher. omega (arith, fetcher.below));
    noted = noted_none job.blocks.now found hits;
  };
  jobs_are = jobs_none (runs_of job) job.geometry job.start 0 (first_of job 0) jobs no_jobs
      (λ n fetcher. omega (arith, fetcher.below));
  few = λ set above below. absurd (omega (arith, below));
  graphs_are = subst (All (IsSpanGraph (runs_of job) job.geometry)) (sym no_graphs)
      (λ k d inside. absurd (omega (arith, inside)));
}

-- the graph of one more part is one for its sets
graphs_more : (job : SetsJob) (graph : Option SpanGraph) (graphs more : List SpanGraph)
    → All (IsSpanGraph (runs_of job) job.geometry) graphs → IfSome graph (IsSpanGraph (runs_of job) job.geometry)
    → more ≡ graphs_with graph graphs → All (IsSpanGraph (runs_of job) job.geometry) more
graphs_more job None graphs more are one is = subst (All (IsSpanGraph (runs_of job) job.geometry)) (sym is) are
graphs_more job (Some graph) graphs more are one is =
    subst (All (IsSpanGraph (runs_of job) job.geometry)) (sym is)
    (All-push (IsSpanGraph (runs_of job) job.geometry) graphs graph are one)

-- one more part
pub sifted_more : (job : SetsJob) → AreRuns job.blocks.now → (count : ℕ) (found more : List NodeVerdict)
    (jobs with_jobs : List ℕ) (graphs with_graphs : List SpanGraph) (part : PartFound)
    → AreSifted job count found jobs graphs → IsPartFound job count part → more ≡ with_heads part.verdicts.items found
    → with_jobs ≡ jobs ++ part.jobs.items → with_graphs ≡ graphs_with part.graph graphs
    → AreSifted job (count + 1) more with_jobs with_graphs
sifted_more job runs count found more jobs with_jobs graphs with_graphs part sifted is more_is jobs_is graphs_is =
    let rises = part_rises job.parts.size job.parts.sets count in
    let old = sifted.noted in
    record {
      noted = record {
        judged = old.judged ++ is.judged;
        are = judged_parts (runs_of job) job.geometry job.start job.kept 0 (first_of job count) (first_of job (count + 1))
            old.judged is.judged _ (omega arith) rises old.are is.are refl;
        noted = noted_more job.blocks.now old.judged is.judged part.verdicts.items found more old.noted is.verdicts
            (λ head there. omega (
              arith,
              heads_inside job.blocks.now runs is.judged part.verdicts.items
                  (λ one among. (is.are.within one among).inside) is.verdicts head there,
              old.noted.as_many,
            ))
            more_is;
      };
      jobs_are = jobs_both (runs_of job) job.geometry job.start 0 (first_of job count) (first_of job (count + 1)) jobs
          part.jobs.items with_jobs (omega arith) rises sifted.jobs_are is.jobs.are jobs_is;
      few = few_both (runs_of job) job.geometry 0 (first_of job count) (first_of job (count + 1)) sifted.few is.jobs.few;
      graphs_are = graphs_more job part.graph graphs with_graphs sifted.graphs_are is.graph graphs_is;
    }

-- this is found of the sets from one to another
record FoundFrom (job : SetsJob) (sets : SetsFound) (nodes : List Node) (low high : ℕ) : Type 0 where
  judged : AreJudged nodes job.geometry job.start job.kept
      (IsFetcherOf nodes job.geometry (IsClearWithin nodes job.geometry job.start low high)) sets.found.judged.items
  jobs_are : AreJobsWithin nodes job.geometry job.start low high sets.found.jobs.items
  few : AreFew nodes job.geometry low high
  graph : IfSome sets.graph (IsSpanGraph nodes job.geometry)

-- what is found of sets, of the graph of the runs and from one of them to another, is found of the part that they make up
pub sets_found : (job : SetsJob) (number : ℕ) (nodes : List Node) (low high : ℕ) (sets : SetsFound)
    → nodes ≡ runs_of job → low ≡ first_of job number → high ≡ first_of job (number + 1)
    → AreJudged nodes job.geometry job.start job.kept
    (IsFetcherOf nodes job.geometry (IsClearWithin nodes job.geometry job.start low high)) sets.found.judged.items
    → AreJobsWithin nodes job.geometry job.start low high sets.found.jobs.items → AreFew nodes job.geometry low high
    → IfSome sets.graph (IsSpanGraph nodes job.geometry) → AreSetsFound job number sets
sets_found job number nodes low high sets nodes_are low_is high_is judged jobs few graph =
    let found : FoundFrom job sets (runs_of job) (first_of job number) (first_of job (number + 1)) =
    subst (λ (ns : List Node). FoundFrom job sets ns (first_of job number) (first_of job (number + 1))) nodes_are
    (subst (λ (first : ℕ). FoundFrom job sets nodes first (first_of job (number + 1))) low_is
    (subst (FoundFrom job sets nodes low) high_is
    (record { judged = judged; jobs_are = jobs; few = few; graph = graph }))) in
    record {
      judged = found.judged;
      jobs = record { are = found.jobs_are; few = found.few };
      graph = found.graph;
    }
