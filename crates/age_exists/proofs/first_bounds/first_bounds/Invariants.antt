use Rattle.age_exists.specs.Equations.{framework_of, setting_with}
use Rattle.age_exists.specs.FirstBounds.{AreFirstBounds}
use Rattle.age_exists.specs.Seen.{entries_seen}
use Rattle.age_exists.proofs.first_bounds.first_bounds.Given as goal

abbrev pub invariant-loop-step : goal.invariant-loop-step
invariant-loop-step l =
    let system = l.system in
    AreFirstBounds (framework_of (setting_with system.hits system.view.now system.start system.own.now system.block))
    (entries_seen l.firsts) l.step-index l.bounds.items
