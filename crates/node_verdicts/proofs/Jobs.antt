-- The jobs of some sets.
use Rattle.std.proofs.Common.{◌≡◌, ◌↔◌, ℕ, ◌+◌, ◌<◌, ◌≤◌, ◌++◌, inl, inr, List, [], length, sym, ap, subst, arith}
use Rattle.std.proofs.lemmas.Bool.{cases_lt}
use Rattle.std.proofs.lemmas.List.{length-append}
use Rattle.std.proofs.lemmas.List.Elements.{Contains-append_left, Contains-append_right, Contains-append_cases}
use Rattle.std.specs.List.{Contains}
use Rattle.std.specs.List.Sorted.{IsStrictlyIncreasing}
use Rattle.cache_spec.specs.declared.start.Start.{Start}
use Rattle.cache_spec.specs.Geometry.{Geometry, set_of}
use Rattle.path_model.specs.declared.graph.Node.{Node}
use Rattle.set_view.specs.View.{View}
use Rattle.age_spec.specs.Jobs.{IsJob, AreJobs}
use Rattle.age_graphs.proofs.Views.{view_by, parts, fetch_inside, fetch_set}
use Rattle.node_verdicts.specs.declared.ranges.Span.{Span}
use Rattle.node_verdicts.specs.Judged.{set_at, IsFetcher}
use Rattle.node_verdicts.specs.Found.{IsJobWithin, AreJobsWithin}
use Rattle.node_verdicts.specs.Ranges.{IsSpan}
use Rattle.node_verdicts.proofs.Block.{none_there}

module _ (nodes : List Node) (g : Geometry) (start : Start) (low high : ℕ) where
  -- a job of one of the sets lies in a set that some node fetches
  job_fetcher : (block : ℕ) → IsJobWithin nodes g start low high block
      → (n : ℕ) × IsFetcher nodes g low high n × (set_at nodes g n ≡ set_of g block)
  job_fetcher block within =
      let job = parts nodes g start block within.is_job in
      let view : View = view_by nodes g (set_of g block) job.blocks job.fetches in
      let n : ℕ = job.unclear.node in
      let fetches = job.unclear.unclear.fetches in
      let at : set_at nodes g n ≡ set_of g block = fetch_set view job.is_view n job.local fetches in (
        n,
        record {
          inside = fetch_inside view job.is_view n job.local fetches;
          above = omega (arith, within.above, at);
          below = omega (arith, within.below, at);
        },
        at,
      )

  -- where no node fetches one of the sets there is no job
  pub jobs_none : (jobs : List ℕ) → jobs ≡ [] → ((n : ℕ) → IsFetcher nodes g low high n → ⊥)
      → AreJobsWithin nodes g start low high jobs
  jobs_none jobs none empty = record {
    members = λ block. (
      λ there. absurd (none_there block (subst (λ (xs : List ℕ). Contains xs block) none there)),
      λ job. let (n, fetcher, at) = job_fetcher block job in absurd (empty n fetcher),
    );
    most = omega (arith, ap length none);
  }

  -- the jobs of the sets of a span, outside of which none is fetched, are those of all the sets
  pub jobs_span : (span : Span) → IsSpan nodes g low high span → (jobs : List ℕ)
      → AreJobsWithin nodes g start span.first (span.last + 1) jobs → AreJobsWithin nodes g start low high jobs
  jobs_span span is jobs are = record {
    members = λ block. (
      λ there.
          let job = (are.members block).0 there in
          record {
            above = omega (arith, is.low_end, job.above);
            below = omega (arith, is.high_end, job.below);
            is_job = job.is_job;
          },
      λ job.
          let (n, fetcher, at) = job_fetcher block job in
          let within = is.all n fetcher in
          (are.members block).1 (record {
            above = omega (arith, within.0, at);
            below = omega (arith, within.1, at);
            is_job = job.is_job;
          }),
    );
    most = omega (arith, are.most, is.low_end, is.high_end);
  }

  -- the jobs of two graphs that have the same ones of these sets
  pub jobs_as : (others : List Node)
      → ((block : ℕ) → low ≤ set_of g block → set_of g block < high
      → IsJob others g start block ↔ IsJob nodes g start block)
      → (jobs : List ℕ) → AreJobsWithin nodes g start low high jobs → AreJobsWithin others g start low high jobs
  jobs_as others same jobs are = record {
    members = λ block. (
      λ there.
          let job = (are.members block).0 there in
          record {
            above = job.above;
            below = job.below;
            is_job = (same block job.above job.below).1 job.is_job;
          },
      λ job.
          (are.members block).1 (record {
            above = job.above;
            below = job.below;
            is_job = (same block job.above job.below).0 job.is_job;
          }),
    );
    most = are.most;
  }

  -- the same jobs, each once
  pub jobs_rising : (jobs rising : List ℕ) → AreJobsWithin nodes g start low high jobs
      → ((block : ℕ) → Contains rising block ↔ Contains jobs block) → length rising ≤ length jobs
      → AreJobsWithin nodes g start low high rising
  jobs_rising jobs rising are same fewer = record {
    members = λ block. (
      λ there. (are.members block).0 ((same block).0 there),
      λ job. (same block).1 ((are.members block).1 job),
    );
    most = omega (arith, are.most, fewer);
  }

-- the jobs of both parts of the sets
pub jobs_both : (nodes : List Node) (g : Geometry) (start : Start) (low middle high : ℕ) (xs ys all : List ℕ)
    → low ≤ middle → middle ≤ high → AreJobsWithin nodes g start low middle xs
    → AreJobsWithin nodes g start middle high ys → all ≡ xs ++ ys → AreJobsWithin nodes g start low high all
jobs_both nodes g start low middle high xs ys all above below first second is =
    subst (AreJobsWithin nodes g start low high) (sym is) (record {
      members = λ block. (
        λ there. elim (Contains-append_cases xs ys block there) [
          | inl left ↦
              let job = (first.members block).0 left in
              record { above = job.above; below = omega (arith, job.below, below); is_job = job.is_job }
          | inr right ↦
              let job = (second.members block).0 right in
              record { above = omega (arith, job.above, above); below = job.below; is_job = job.is_job }
        ],
        λ job. elim (cases_lt (set_of g block) middle) [
          | inl before ↦
              Contains-append_left xs ys block
              ((first.members block).1 (record { above = job.above; below = before; is_job = job.is_job }))
          | inr from ↦
              Contains-append_right xs ys block
              ((second.members block).1 (record { above = from; below = job.below; is_job = job.is_job }))
        ],
      );
      most = omega (arith, first.most, second.most, length-append xs ys, above, below);
    })

-- the jobs of all sets, once each and rising
pub jobs_all : (nodes : List Node) (g : Geometry) (start : Start) (jobs : List ℕ)
    → ((block : ℕ) → set_of g block < g.sets) → AreJobsWithin nodes g start 0 g.sets jobs → IsStrictlyIncreasing jobs
    → AreJobs nodes g start jobs
jobs_all nodes g start jobs sets are rises = record {
  rising = rises;
  members = λ block. (
    λ there. ((are.members block).0 there).is_job,
    λ job. (are.members block).1 (record { above = omega arith; below = sets block; is_job = job }),
  );
}
