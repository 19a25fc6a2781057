use Rattle.std.proofs.Common.{◌≡◌, length}
use Rattle.focus_plain.specs.Ends.{AreEnds}
use Rattle.focus_plain.proofs.ends.ends.Given as goal

abbrev pub invariant-loop-index : goal.invariant-loop-index
invariant-loop-index l = record {
  ends : AreEnds l.entries l.index l.small l.ends.items;
  one_each : length l.ends.items ≡ l.count;
}
