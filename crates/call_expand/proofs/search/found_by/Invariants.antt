use Rattle.std.proofs.Common.{◌≡◌, take}
use Rattle.std.specs.Prelude.{flat_map}
use Rattle.call_expand.specs.Point.{points_of}
use Rattle.call_expand.proofs.search.found_by.Given as goal

abbrev pub invariant-loop-edge : goal.invariant-loop-edge
invariant-loop-edge l = l.found.items ≡ flat_map points_of (take l.edge-index l.edges)
