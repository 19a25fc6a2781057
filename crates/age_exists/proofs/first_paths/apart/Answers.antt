use Rattle.std.proofs.Common.{◌+◌, ◌∙◌, ap, sym, subst}
use Rattle.std.proofs.lemmas.List.{map-append}
use Rattle.age_exists.specs.FirstSteps.{AreApart}
use Rattle.age_exists.specs.Seen.{entry_seen, entries_seen}
use Rattle.age_exists.proofs.FirstSteps.{apart_more}
use Rattle.age_exists.proofs.first_paths.apart.Goals as goal

pub loop-node-preserved : goal.loop-node-preserved
loop-node-preserved c =
    let steps = c.loop-node.steps.items in
    let n = c.loop-node.node in
    subst (AreApart (n + 1)) (sym (ap entries_seen c.in_ok-push.ensures.items ∙ map-append entry_seen steps _))
    (apart_more n (entries_seen steps) c.loop-node.invariant)
