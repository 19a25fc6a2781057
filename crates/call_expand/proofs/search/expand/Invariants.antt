use Rattle.std.proofs.Common.{◌-◌}
use Rattle.call_expand.specs.Search.{IsSearchAt}
use Rattle.call_expand.proofs.search.expand.Given as goal

abbrev pub invariant-loop-start : goal.invariant-loop-start
invariant-loop-start l = IsSearchAt l.program l.search l.start

abbrev pub decreases-loop-start : goal.decreases-loop-start
decreases-loop-start l = 65536 - l.start
