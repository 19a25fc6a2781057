use Rattle.cache_geom.proofs.Fetch.{touch-distinct}
use Rattle.cache_geom.proofs.lru_set.touch_keeps_sets.Goals as goal

pub returns-clause-distinct : goal.returns-clause-distinct
returns-clause-distinct c = touch-distinct
