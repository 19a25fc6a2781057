use Rattle.std.proofs.Common.{ℕ, ◌≡◌, ◌↔◌, ◌+◌, ◌<◌, ◌≤◌, List, Option, subst, arith, rules}
use Rattle.std.specs.Prelude.{IfSome}
use Rattle.cache_spec.specs.Geometry.{set_of}
use Rattle.sparse_graph.specs.Sparse.{Sparse, IsSparse, KeepsSets}
use Rattle.path_model.specs.declared.graph.Node.{Node}
use Rattle.age_spec.specs.Jobs.{IsJob}
use Rattle.node_verdicts.specs.Judged.{IsFetcher, IsFetcherOf, IsEnds, AreJudged}
use Rattle.node_verdicts.specs.Ranges.{IsSpan, AreFew, IsFaultWithin}
use Rattle.node_verdicts.specs.Found.{AreJobsWithin, IsClearWithin}
use Rattle.node_verdicts.proofs.Counted.{few_unfetched}
use Rattle.node_verdicts.proofs.Jobs.{jobs_none, jobs_span, jobs_as, jobs_both}
use Rattle.node_verdicts.proofs.Lifted.{Laws, laws_of, ends_paths, judged_whole, few_whole, fault_whole}
use Rattle.node_verdicts.proofs.Spans.{few_span, fault_span, judged_span, judged_empty, judged_clear, few_both, fault_first, fault_second, judged_parts, err_as}
use Rattle.node_verdicts.proofs.ranges.+ranges.Goals as goal
use Rattle.node_verdicts.proofs.ranges.+ranges.Goals.{judge_sets-In_default, judge_sets-In-Some, judge_sets-In-Some-2}

-- no node fetches one of the sets where there is no span of them
nobody : (k : ℕ) (c : judge_sets-In_default k) (n : ℕ)
    → IsFetcher c.args.graph.now c.args.geometry.now c.args.low c.args.high n → ⊥
nobody k c n =
    subst (λ (ns : List Node). IsFetcher ns c.args.geometry.now c.args.low c.args.high n → ⊥) c.nodes.ensures.same
    (c.in_default.ensures.none n)

pub judge_sets-returns-in_default-clause-judged : goal.judge_sets-returns-in_default-clause-judged
judge_sets-returns-in_default-clause-judged k c =
    let known = (goal.at.judge_sets-returns-in_default-clause-judged k c).In_default in
    judged_empty c.args.graph.now c.args.geometry.now c.args.start c.args.kept c.args.low c.args.high _
    c.none.ensures.judged (nobody k known)

pub judge_sets-returns-in_default-clause-jobs : goal.judge_sets-returns-in_default-clause-jobs
judge_sets-returns-in_default-clause-jobs k c =
    let known = (goal.at.judge_sets-returns-in_default-clause-jobs k c).In_default in
    jobs_none c.args.graph.now c.args.geometry.now c.args.start c.args.low c.args.high _ c.none.ensures.jobs
    (nobody k known)

pub judge_sets-returns-in_default-clause-few : goal.judge_sets-returns-in_default-clause-few
judge_sets-returns-in_default-clause-few k c set above below =
    let known = (goal.at.judge_sets-returns-in_default-clause-few k c).In_default in
    few_unfetched c.args.graph.now c.args.geometry.now set (λ n inside at.
    nobody k known n (record {
      inside = inside;
      above = omega (arith, above, at);
      below = omega (arith, below, at);
    }))

-- the span is that of the graph's nodes
span_of : (k : ℕ) (c : judge_sets-In-Some k)
    → IsSpan c.args.graph.now c.args.geometry.now c.args.low c.args.high c.in-Some.span
span_of k c =
    subst (λ (ns : List Node). IsSpan ns c.args.geometry.now c.args.low c.args.high c.in-Some.span)
    c.nodes.ensures.same c.in-Some.ensures.some

-- the sparse graph is one, keeps the nodes that fetch a set of the span, and is of the graph
made_of : (k : ℕ) (c : judge_sets-In-Some-2 k) → IsSparse c.in-Some-2.sparse
    × KeepsSets c.in-Some-2.sparse c.args.geometry.now c.in-Some.span.first (c.in-Some.span.last + 1)
    × (c.in-Some-2.sparse.nodes ≡ c.args.graph.now)
made_of k c = (
  subst (λ (o : Option Sparse). IfSome o IsSparse) c.in-Some-2.is c.in_ok-sparse.ensures.sparse,
  subst (λ (o : Option Sparse). IfSome o (λ made.
      KeepsSets made c.args.geometry.now c.in-Some.span.first (c.in-Some.span.last + 1))) c.in-Some-2.is
      c.in_ok-sparse.ensures.keeps,
  subst (λ (o : Option Sparse). IfSome o (λ made. made.nodes ≡ c.args.graph.now)) c.in-Some-2.is
      c.in_ok-sparse.ensures.nodes,
)

-- what holds of it
laws_here : (k : ℕ) (c : judge_sets-In-Some-2 k)
    → Laws c.in-Some-2.sparse c.args.geometry.now c.args.start c.in-Some.span.first (c.in-Some.span.last + 1)
laws_here k c =
    let (is, keeps, nodes) = made_of k c in
    laws_of c.in-Some-2.sparse c.args.geometry.now c.args.start c.in-Some.span.first (c.in-Some.span.last + 1) is keeps

-- it has the jobs of the graph
same_jobs : (k : ℕ) (c : judge_sets-In-Some-2 k) (block : ℕ) → c.in-Some.span.first ≤ set_of c.args.geometry.now block
    → set_of c.args.geometry.now block < c.in-Some.span.last + 1
    → IsJob c.in-Some-2.sparse.nodes c.args.geometry.now c.args.start block
    ↔ IsJob c.in-Some-2.sparse.small c.args.geometry.now c.args.start block
same_jobs k c block above below =
    let (is, keeps, nodes) = made_of k c in
    c.job_laws.ensures.sparse c.in-Some-2.sparse c.args.geometry.now c.args.start block is
    (keeps (set_of c.args.geometry.now block) above below)

pub judge_sets-returns-in_err-small-in-Some-2-clause-fault : goal.judge_sets-returns-in_err-small-in-Some-2-clause-fault
judge_sets-returns-in_err-small-in-Some-2-clause-fault k c =
    let known = (goal.at.judge_sets-returns-in_err-small-in-Some-2-clause-fault k c).In-Some-2 in
    let first = (goal.at.judge_sets-returns-in_err-small-in-Some-2-clause-fault k c).In-Some in
    let g = c.args.geometry.now in
    let span = c.in-Some.span in
    let fault = c.in_err-small-in-Some-2.field-0.0 in
    let small = subst (λ (ns : List Node). IsFaultWithin ns g span.first (span.last + 1) fault) c.graph.ensures.same
    c.in_err-small-in-Some-2.ensures.fault in
    let whole = subst (λ (ns : List Node). IsFaultWithin ns g span.first (span.last + 1) fault) (made_of k known).2
    (fault_whole c.in-Some-2.sparse g c.args.start span.first (span.last + 1) (laws_here k known) fault small) in
    err_as (IsFaultWithin c.args.graph.now g c.args.low c.args.high) _ fault
    c.from_residual-in_err-small-in-Some-2.ensures.1
    (fault_span c.args.graph.now g c.args.low c.args.high span (span_of k first) fault whole)

pub judge_sets-lift_all-requires : goal.judge_sets-lift_all-requires
judge_sets-lift_all-requires k c one there =
    ends_paths c.in-Some-2.sparse.small c.args.geometry.now c.args.start one.node one.ends
    (subst (λ (ns : List Node). IsEnds ns c.args.geometry.now c.args.start one.node one.ends) c.graph.ensures.same
    (c.in_ok-small-in-Some-2.ensures.judged.right one there))

pub judge_sets-returns-in_ok-judged-in-Some-2-clause-judged
    : goal.judge_sets-returns-in_ok-judged-in-Some-2-clause-judged
judge_sets-returns-in_ok-judged-in-Some-2-clause-judged k c =
    let known = (goal.at.judge_sets-returns-in_ok-judged-in-Some-2-clause-judged k c).In-Some-2 in
    let first = (goal.at.judge_sets-returns-in_ok-judged-in-Some-2-clause-judged k c).In-Some in
    let g = c.args.geometry.now in
    let start = c.args.start in
    let span = c.in-Some.span in
    let sparse = c.in-Some-2.sparse in
    let judged = c.in_ok-small-in-Some-2.small.judged.items in
    let lifted = c.in_ok-judged-in-Some-2.judged.items in
    let small = subst (λ (ns : List Node). AreJudged ns g start c.args.kept
    (IsFetcherOf ns g (IsClearWithin ns g start span.first (span.last + 1))) judged) c.graph.ensures.same
    c.in_ok-small-in-Some-2.ensures.judged in
    let whole = judged_clear sparse.nodes g start c.args.kept span.first (span.last + 1) sparse.small lifted
    (λ block above below. ((same_jobs k known block above below).1, (same_jobs k known block above below).0))
    (judged_whole sparse g start span.first (span.last + 1) (laws_here k known) c.args.kept
    (IsClearWithin sparse.small g start span.first (span.last + 1)) (λ block clear. (clear.above, clear.below))
    judged lifted small c.in_ok-judged-in-Some-2.ensures) in
    judged_span c.args.graph.now g c.args.low c.args.high span (span_of k first) start c.args.kept lifted
    (subst (λ (ns : List Node). AreJudged ns g start c.args.kept
    (IsFetcherOf ns g (IsClearWithin ns g start span.first (span.last + 1))) lifted) (made_of k known).2 whole)

pub judge_sets-returns-in_ok-judged-in-Some-2-clause-few : goal.judge_sets-returns-in_ok-judged-in-Some-2-clause-few
judge_sets-returns-in_ok-judged-in-Some-2-clause-few k c =
    let known = (goal.at.judge_sets-returns-in_ok-judged-in-Some-2-clause-few k c).In-Some-2 in
    let first = (goal.at.judge_sets-returns-in_ok-judged-in-Some-2-clause-few k c).In-Some in
    let g = c.args.geometry.now in
    let span = c.in-Some.span in
    let small = subst (λ (ns : List Node). AreFew ns g span.first (span.last + 1)) c.graph.ensures.same
    c.in_ok-small-in-Some-2.ensures.few in
    let whole = subst (λ (ns : List Node). AreFew ns g span.first (span.last + 1)) (made_of k known).2
    (few_whole c.in-Some-2.sparse g c.args.start span.first (span.last + 1) (laws_here k known) small) in
    few_span c.args.graph.now g c.args.low c.args.high span (span_of k first) whole

pub judge_sets-returns-in_ok-judged-in-Some-2-clause-jobs : goal.judge_sets-returns-in_ok-judged-in-Some-2-clause-jobs
judge_sets-returns-in_ok-judged-in-Some-2-clause-jobs k c =
    let known = (goal.at.judge_sets-returns-in_ok-judged-in-Some-2-clause-jobs k c).In-Some-2 in
    let first = (goal.at.judge_sets-returns-in_ok-judged-in-Some-2-clause-jobs k c).In-Some in
    let g = c.args.geometry.now in
    let start = c.args.start in
    let span = c.in-Some.span in
    let sparse = c.in-Some-2.sparse in
    let jobs = c.in_ok-small-in-Some-2.small.jobs.items in
    let small = subst (λ (ns : List Node). AreJobsWithin ns g start span.first (span.last + 1) jobs)
    c.graph.ensures.same c.in_ok-small-in-Some-2.ensures.jobs in
    let whole = subst (λ (ns : List Node). AreJobsWithin ns g start span.first (span.last + 1) jobs)
    (made_of k known).2
    (jobs_as sparse.small g start span.first (span.last + 1) sparse.nodes (same_jobs k known) jobs small) in
    jobs_span c.args.graph.now g start c.args.low c.args.high span (span_of k first) jobs whole

pub judge_sets-returns-in_ok-judged-in-Some-2-clause-graph : goal.judge_sets-returns-in_ok-judged-in-Some-2-clause-graph
judge_sets-returns-in_ok-judged-in-Some-2-clause-graph k c =
    let (is, keeps, nodes) = made_of k (goal.at.judge_sets-returns-in_ok-judged-in-Some-2-clause-graph k c).In-Some-2 in
    record { is_sparse = is; nodes_are = nodes; keeps = keeps }

pub judge_sets-returns-in_ok-found-in-None-clause-judged : goal.judge_sets-returns-in_ok-found-in-None-clause-judged
judge_sets-returns-in_ok-found-in-None-clause-judged k c =
    let known = (goal.at.judge_sets-returns-in_ok-found-in-None-clause-judged k c).In-Some in
    judged_span c.args.graph.now c.args.geometry.now c.args.low c.args.high c.in-Some.span (span_of k known)
    c.args.start c.args.kept c.in_ok-found-in-None.found.judged.items c.in_ok-found-in-None.ensures.judged

pub judge_sets-returns-in_ok-found-in-None-clause-jobs : goal.judge_sets-returns-in_ok-found-in-None-clause-jobs
judge_sets-returns-in_ok-found-in-None-clause-jobs k c =
    let known = (goal.at.judge_sets-returns-in_ok-found-in-None-clause-jobs k c).In-Some in
    jobs_span c.args.graph.now c.args.geometry.now c.args.start c.args.low c.args.high c.in-Some.span
    (span_of k known) c.in_ok-found-in-None.found.jobs.items c.in_ok-found-in-None.ensures.jobs

pub judge_sets-returns-in_ok-found-in-None-clause-few : goal.judge_sets-returns-in_ok-found-in-None-clause-few
judge_sets-returns-in_ok-found-in-None-clause-few k c =
    let known = (goal.at.judge_sets-returns-in_ok-found-in-None-clause-few k c).In-Some in
    few_span c.args.graph.now c.args.geometry.now c.args.low c.args.high c.in-Some.span (span_of k known)
    c.in_ok-found-in-None.ensures.few

pub judge_sets-returns-in_err-found-in-None-clause-fault : goal.judge_sets-returns-in_err-found-in-None-clause-fault
judge_sets-returns-in_err-found-in-None-clause-fault k c =
    let known = (goal.at.judge_sets-returns-in_err-found-in-None-clause-fault k c).In-Some in
    let fault = c.in_err-found-in-None.field-0.0 in
    err_as (IsFaultWithin c.args.graph.now c.args.geometry.now c.args.low c.args.high) _ fault
    c.from_residual-in_err-found-in-None.ensures.1
    (fault_span c.args.graph.now c.args.geometry.now c.args.low c.args.high c.in-Some.span (span_of k known) fault
    c.in_err-found-in-None.ensures.fault)

pub judge_span-returns-in_err-part-clause-fault : goal.judge_span-returns-in_err-part-clause-fault
judge_span-returns-in_err-part-clause-fault k c =
    let nodes = c.args.graph.now in
    let g = c.args.geometry.now in
    let end = c.args.span.last + 1 in
    let fault = c.in_err-part.field-0.0 in
    err_as (IsFaultWithin nodes g c.args.span.first end) _ fault c.from_residual.ensures.1
    (fault_second nodes g c.args.span.first c.loop-low.low end c.loop-low.invariant.above c.loop-low.invariant.few fault
    (fault_first nodes g c.loop-low.low c.part_end-high.result end c.part_end-high.ensures.fits fault
    c.in_err-part.ensures.fault))

pub judge_span-loop-low-preserved : goal.judge_span-loop-low-preserved
judge_span-loop-low-preserved k c =
    let nodes = c.args.graph.now in
    let g = c.args.geometry.now in
    let first = c.args.span.first in
    let low = c.loop-low.low in
    let high = c.part_end-high.result in
    let more : low ≤ high = omega (arith, c.part_end-high.ensures.more) in
    record {
      above = omega (arith, c.loop-low.invariant.above, more);
      below = c.part_end-high.ensures.fits;
      judged = judged_parts nodes g c.args.start c.args.kept first low high c.loop-low.found.judged.items
          c.in_ok-part.part.found.judged.items c.add.new.found.judged.items c.loop-low.invariant.above more
          c.loop-low.invariant.judged c.in_ok-part.ensures.judged c.in_ok-add.ensures.judged;
      jobs = jobs_both nodes g c.args.start first low high c.loop-low.found.jobs.items c.in_ok-part.part.found.jobs.items
          c.add.new.found.jobs.items c.loop-low.invariant.above more c.loop-low.invariant.jobs
          c.in_ok-part.ensures.jobs c.in_ok-add.ensures.jobs;
      few = few_both nodes g first low high c.loop-low.invariant.few c.in_ok-part.ensures.few;
    }

pub judge_span-returns-clause-judged : goal.judge_span-returns-clause-judged
judge_span-returns-clause-judged k c =
    let end : c.loop-low.low ≡ c.args.span.last + 1 = search rules in
    subst (λ (high : ℕ). AreJudged c.args.graph.now c.args.geometry.now c.args.start c.args.kept
    (IsFetcherOf c.args.graph.now c.args.geometry.now (IsClearWithin c.args.graph.now c.args.geometry.now c.args.start
    c.args.span.first high)) c.loop-low.found.judged.items) end
    c.loop-low.invariant.judged
