use Rattle.age_exists.specs.Fetchers.{HaveFetchers}
use Rattle.age_exists.specs.Rows.{columns_seen}
use Rattle.age_exists.proofs.fetchers.fetchers_of.Given as goal

abbrev pub invariant-loop-node : goal.invariant-loop-node
invariant-loop-node l = HaveFetchers l.view l.node (columns_seen l.fetchers.items)
