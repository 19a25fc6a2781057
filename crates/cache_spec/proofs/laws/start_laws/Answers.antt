use Rattle.cache_spec.proofs.Starts.{can_end-empty, can_miss, can_hit-alone, can_end}
use Rattle.cache_spec.proofs.laws.start_laws.Goals as goal

pub returns-clause-empty : goal.returns-clause-empty
returns-clause-empty c = can_end-empty

pub returns-clause-misses : goal.returns-clause-misses
returns-clause-misses c = can_miss

pub returns-clause-hits : goal.returns-clause-hits
returns-clause-hits c = can_hit-alone

pub returns-clause-either : goal.returns-clause-either
returns-clause-either c = can_end
