use Rattle.std.proofs.Common.{◌+◌, ◌-◌, ◌*◌, ◌≤◌}
use Rattle.node_verdicts.specs.Judged.{AreJudged, IsFetcherOf}
use Rattle.node_verdicts.specs.Found.{AreJobsWithin, IsClearWithin}
use Rattle.node_verdicts.specs.Ranges.{AreFew}
use Rattle.node_verdicts.proofs.ranges.+ranges.Given as goal

-- a span is judged before its parts
abbrev pub decreases-judge_sets : goal.decreases-judge_sets
decreases-judge_sets l = 2 * (l.high - l.low) + 1

abbrev pub decreases-judge_span : goal.decreases-judge_span
decreases-judge_span l = 2 * (l.span.last + 1 - l.span.first)

-- the sets of the first parts are judged
abbrev pub invariant-judge_span-loop-low : goal.invariant-judge_span-loop-low
invariant-judge_span-loop-low l = record {
  above : l.first ≤ l.low;
  below : l.low ≤ l.last + 1;
  judged : AreJudged l.graph l.geometry l.fn.start l.fn.kept
      (IsFetcherOf l.graph l.geometry (IsClearWithin l.graph l.geometry l.fn.start l.first l.low)) l.found.judged.items;
  jobs : AreJobsWithin l.graph l.geometry l.fn.start l.first l.low l.found.jobs.items;
  few : AreFew l.graph l.geometry l.first l.low;
}

abbrev pub decreases-judge_span-loop-low : goal.decreases-judge_span-loop-low
decreases-judge_span-loop-low l = l.last + 1 - l.low
