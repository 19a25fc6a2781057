use Rattle.std.proofs.Common.{map}
use Rattle.std.specs.List.{All}
use Rattle.focus_plain.specs.Settled.{IsFate}
use Rattle.focus_plain.proofs.Fetchers.{AreFetchersBelow}
use Rattle.focus_plain.proofs.settling.fates.Given as goal

abbrev pub invariant-loop-node : goal.invariant-loop-node
invariant-loop-node l = record {
  nodes : AreFetchersBelow l.view.fetches l.found.block l.node (map (λ fate. fate.node) l.fates.items);
  ends : All (IsFate l.view l.found.start) l.fates.items;
}
