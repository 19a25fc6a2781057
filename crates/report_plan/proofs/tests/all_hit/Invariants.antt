use Rattle.std.proofs.Common.{◌≡◌, length}
use Rattle.report_plan.specs.Tests.{KeepAll}
use Rattle.report_plan.proofs.tests.all_hit.Given as goal

-- no verdict so far lacks its ways, and one was pushed in each round
abbrev pub invariant-loop : goal.invariant-loop
invariant-loop l = record {
  all : KeepAll l.verdicts.items;
  count : length l.verdicts.items ≡ l.counter;
}
