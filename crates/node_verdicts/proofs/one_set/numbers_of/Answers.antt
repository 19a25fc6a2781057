use Rattle.std.proofs.Common.{get_or}
use Rattle.std.proofs.lemmas.List.Elements.{Contains-get_or}
use Rattle.node_verdicts.proofs.one_set.numbers_of.Goals as goal

pub bounds-blocks-place : goal.bounds-blocks-place
bounds-blocks-place c =
    c.requires (get_or c.args.places.now c.loop-place.place-index 0)
    (Contains-get_or c.args.places.now c.loop-place.place-index 0 c.loop-place-test.true)
