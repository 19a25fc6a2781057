use Rattle.age_exists.specs.Rows.{columns_seen}
use Rattle.age_exists.proofs.Columned.{AreFirst}
use Rattle.age_exists.proofs.all_blocks.columns.Given as goal

abbrev pub invariant-loop-block : goal.invariant-loop-block
invariant-loop-block l = AreFirst l.view l.start l.hits l.own l.block (columns_seen l.columns.items)
