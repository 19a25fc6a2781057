use Rattle.std.proofs.Common.{sym, subst}
use Rattle.cache_spec.specs.declared.start.Start.{Start}
use Rattle.age_spec.specs.Ages.{AreMayAges}
use Rattle.age_exists.proofs.tests.check.Goals as goal

pub unclear-requires-clause-may : goal.unclear-requires-clause-may
unclear-requires-clause-may g c =
    subst (λ (start : Start). AreMayAges c.args.seen.now start c.in_ok-may.may) (sym c.in_ok-hit.ensures.start)
    c.in_ok-may.ensures.least
