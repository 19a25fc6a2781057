use Rattle.std.specs.Prelude.{◌≡◌, Some}
use Rattle.focus_spec.specs.Younger.{fetch_at}
use Rattle.node_verdicts.proofs.Block.{AreSoFar}
use Rattle.node_verdicts.proofs.one_block.search_local.Given as goal

-- the nodes before this one that fetch the block are judged
abbrev pub invariant-loop-node : goal.invariant-loop-node
invariant-loop-node l =
    AreSoFar l.view l.fn.start l.fn.kept (λ n. fetch_at l.view.fetches n ≡ Some l.fn.block) l.node l.addresses.items
    l.judged.items
