use Rattle.std.proofs.Common.{sym, ◌∙◌}
use Rattle.std.proofs.lemmas.List.Sorted.{searched}
use Rattle.set_view.proofs.Rising.{later-not_smaller, place_of-searched}
use Rattle.set_view.proofs.fetched.place_of.Goals as goal

pub returns-in_err-place : goal.returns-in_err-place
returns-in_err-place c =
    let xs = c.args.blocks.now in
    let is = place_of-searched xs c.args.block c.binary_search.result c.requires.rising
    (searched xs c.args.block c.binary_search.result c.binary_search.ensures.position
    (λ i j le within. later-not_smaller xs i j c.requires.rising le within)) in
    c.from_residual.ensures ∙ sym c.in_err-place.was ∙ c.ok.ensures.value ∙ is

pub returns : goal.returns
returns c =
    let xs = c.args.blocks.now in
    let is = place_of-searched xs c.args.block c.binary_search.result c.requires.rising
    (searched xs c.args.block c.binary_search.result c.binary_search.ensures.position
    (λ i j le within. later-not_smaller xs i j c.requires.rising le within)) in
    sym c.in_ok-place.was ∙ c.ok.ensures.value ∙ is
