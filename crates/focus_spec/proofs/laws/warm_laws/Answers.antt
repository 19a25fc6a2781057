use Rattle.focus_spec.specs.Younger.{first_warm}
use Rattle.focus_spec.proofs.Renamed.{warm-named}
use Rattle.focus_spec.proofs.Since.{after_all-fetched, after_all-younger}
use Rattle.focus_spec.proofs.Stack.{can_hit-warm, can_miss-younger, rising-warm}
use Rattle.focus_spec.proofs.laws.warm_laws.Goals as goal

pub returns-clause-hits : goal.returns-clause-hits
returns-clause-hits c = can_hit-warm

pub returns-clause-misses : goal.returns-clause-misses
returns-clause-misses c = can_miss-younger

pub returns-clause-younger : goal.returns-clause-younger
returns-clause-younger c = λ start block fetches set is. after_all-younger block fetches (first_warm start) set is

pub returns-clause-unfetched : goal.returns-clause-unfetched
returns-clause-unfetched c = after_all-fetched

pub returns-clause-rising : goal.returns-clause-rising
returns-clause-rising c = rising-warm

pub returns-clause-renamed : goal.returns-clause-renamed
returns-clause-renamed c = warm-named
