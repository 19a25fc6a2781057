use Rattle.cache_spec.specs.declared.start.Start.TheVariants.{Empty}
use Rattle.cache_spec.specs.Geometry.{block_of, set_of}
use Rattle.focus_spec.proofs.Renamed.{warm-named}
use Rattle.focus_spec.proofs.Since.{younger-since, younger-none}
use Rattle.focus_spec.proofs.Stack.{is_in-contents, rising-warm}
use Rattle.focus_spec.proofs.laws.younger_laws.Goals as goal

pub returns-clause-hits : goal.returns-clause-hits
returns-clause-hits c =
    λ g address earlier. is_in-contents g (block_of g address) (set_of g (block_of g address)) earlier

pub returns-clause-rising : goal.returns-clause-rising
returns-clause-rising c = rising-warm Empty

pub returns-clause-renamed : goal.returns-clause-renamed
returns-clause-renamed c = warm-named Empty

pub returns-clause-since : goal.returns-clause-since
returns-clause-since c = younger-since

pub returns-clause-none : goal.returns-clause-none
returns-clause-none c = younger-none
