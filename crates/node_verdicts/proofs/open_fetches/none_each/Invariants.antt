use Rattle.std.specs.Prelude.{◌≡◌, replicate, []}
use Rattle.node_verdicts.specs.Open.{lists_seen}
use Rattle.node_verdicts.proofs.open_fetches.none_each.Given as goal

abbrev pub invariant-loop : goal.invariant-loop
invariant-loop l = lists_seen l.lists.items ≡ replicate l.counter []
