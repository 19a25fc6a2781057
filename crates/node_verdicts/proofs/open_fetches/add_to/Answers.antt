use Rattle.std.proofs.Common.{◌++◌, ◌∷◌, [], ℕ, List, Vec, Global, ap, ◌∙◌}
use Rattle.std.specs.Prelude.{slice_set}
use Rattle.std.proofs.lemmas.List.{map-set}
use Rattle.node_verdicts.specs.Open.{items_of, lists_seen}
use Rattle.node_verdicts.proofs.Opened.{kept_of}
use Rattle.node_verdicts.proofs.open_fetches.add_to.Goals as goal

pub returns : goal.returns
returns c =
    let lists : List (Vec ℕ Global) = c.args.lists.now.items in
    let block = c.args.block in
    map-set items_of lists block c.push.new.self
    ∙ ap (slice_set (lists_seen lists) block)
    (c.in_ok-push.ensures.items
    ∙ ap (λ (nodes : List ℕ). nodes ++ c.args.node ∷ [])
    (kept_of lists block c.index_mut.result.now c.requires c.index_mut.ensures.value))
