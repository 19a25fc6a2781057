use Rattle.std.proofs.Common.{◌≡◌, map, reverse, take}
use Rattle.cache_spec.specs.Contents.{contents}
use Rattle.path_model.specs.Graph.{address_of}
use Rattle.path_model.proofs.walk.kept_after.Given as goal

abbrev pub invariant-loop-number : goal.invariant-loop-number
invariant-loop-number l =
    (l.kept.blocks ≡ contents l.geometry l.set l.initial.kept.blocks
    (map (address_of l.nodes) (reverse (take l.number-index l.path))))
    × (l.kept.ways ≡ l.geometry.ways)
