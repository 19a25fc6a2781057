use Rattle.std.proofs.lemmas.Result.{IfOk-weaker}
use Rattle.cache_spec.specs.declared.start.Start.{Start}
use Rattle.cache_spec.specs.declared.start.Start.TheVariants.{Empty}
use Rattle.lattice_fix.specs.Solution.{IsLeast}
use Rattle.age_spec.specs.declared.kind.Kind.TheVariants.{Must}
use Rattle.age_spec.specs.Ages.{age_framework, setting_of}
use Rattle.age_spec.specs.Sound.{BoundPlaces}
use Rattle.age_spec.proofs.Bounded.{solution_bounds}
use Rattle.age_must_may.proofs.ages.must.Goals as goal

pub returns-clause-above : goal.returns-clause-above
returns-clause-above c =
    let view = c.args.view.now in
    IfOk-weaker c.ages_of.result (λ ages. IsLeast (age_framework (setting_of view Must Empty)) view.nodes ages)
    (λ ages. (start : Start) → BoundPlaces view Must start ages)
    (λ ages least start. solution_bounds view c.blocks-blocks.ensures.view start Must ages least.solution)
    c.ages_of.ensures.least
