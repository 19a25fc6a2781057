use Rattle.std.proofs.Common.{◌≡◌, [], replicate}
use Rattle.age_exists.specs.Rows.{columns_seen}
use Rattle.age_exists.proofs.fetchers.no_fetchers.Given as goal

abbrev pub invariant-loop-block : goal.invariant-loop-block
invariant-loop-block l = columns_seen l.fetchers.items ≡ replicate l._block []
