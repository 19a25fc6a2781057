use Rattle.std.proofs.Common.{ℕ, false, ◌∙◌, subst}
use Rattle.lattice_fix.specs.Framework.{Framework}
use Rattle.lattice_fix.specs.Solution.{IsLeast}
use Rattle.age_spec.specs.declared.kind.Kind.TheVariants.{May}
use Rattle.age_spec.specs.Exists.{AreMissBounds}
use Rattle.age_spec.proofs.Bounded.{solution_bounds}
use Rattle.age_exists.specs.Solving.{Solving}
use Rattle.age_exists.proofs.Own.{over_ages}
use Rattle.age_exists.proofs.solver.BlockSolver.miss_bounds.Goals as goal

pub solved-requires-clause-own : goal.solved-requires-clause-own
solved-requires-clause-own c =
    let solving = c.self.invariant.solving in
    let may = c.self.inside.may.now in
    record {
      ages = may;
      sound = solution_bounds c.self.inside.view.now solving.is_view c.self.inside.start May may
          solving.may_ages.solution;
      same = c.deref.ensures.value ∙ c.self.invariant.ages;
    }

pub returns-clause-bounds : goal.returns-clause-bounds
returns-clause-bounds c =
    let view = c.self.inside.view.now in
    let bounds = c.in_ok-found.found.bounds in
    subst (λ (s : Solving). AreMissBounds s.view s.may c.args.block bounds) c.self.view_is
    (subst (λ (F : Framework ℕ). IsLeast F view.nodes bounds)
    (over_ages view c.self.invariant.solving.is_view false c.self.inside.start c.deref.result.now
    c.self.inside.may.now c.args.block (c.deref.ensures.value ∙ c.self.invariant.ages)) c.in_ok-found.ensures.least)
