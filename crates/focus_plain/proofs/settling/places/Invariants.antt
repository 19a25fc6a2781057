use Rattle.std.proofs.Common.{◌≡◌, length}
use Rattle.focus_plain.proofs.Kept.{AreKept}
use Rattle.focus_plain.proofs.settling.places.Given as goal

abbrev pub invariant-loop-younger : goal.invariant-loop-younger
invariant-loop-younger l = record {
  count : l.node ≡ length l.yielded;
  kept : AreKept l.focus.view.now l.focus.start l.focus.block l.node l.places.items;
}
