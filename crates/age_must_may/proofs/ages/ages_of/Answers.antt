use Rattle.std.proofs.Common.{List, ℕ, Vec, Global, map, subst}
use Rattle.path_model.specs.declared.graph.Node.{Node}
use Rattle.lattice_fix.specs.Solution.{IsSolution}
use Rattle.age_spec.specs.Ages.{Setting, setting_of, age_framework}
use Rattle.age_spec.proofs.Bounded.{solution_rows, solution_bounds}
use Rattle.age_must_may.proofs.ages.ages_of.Goals as goal

abbrev items_of : Vec ℕ Global → List ℕ
items_of row = row.items

-- rows of ages that are a solution
abbrev Solves : List Node → List (List ℕ) → Setting → Type 0
Solves nodes rows g = IsSolution (age_framework g) nodes rows

pub returns-in-Ok-clause-rows : goal.returns-in-Ok-clause-rows
returns-in-Ok-clause-rows c =
    let view = c.args.view.now in
    let rows : List (List ℕ) = map items_of c.in-Ok.solution.values in
    let then : Setting = setting_of c.solve.new.domain.view.now c.solve.new.domain.kind c.solve.new.domain.start in
    let solved : Solves view.nodes rows (setting_of view c.args.kind c.args.start) =
    subst (Solves view.nodes rows) c.in-Ok.ensures.goes_on
    (subst (λ (nodes : List Node). Solves nodes rows then) c.graph.ensures.same c.in-Ok.ensures.least.solution) in
    solution_rows view c.blocks-blocks.ensures.view c.args.start c.args.kind rows solved

pub returns-in-Ok-clause-bounds : goal.returns-in-Ok-clause-bounds
returns-in-Ok-clause-bounds c =
    let view = c.args.view.now in
    let rows : List (List ℕ) = map items_of c.in-Ok.solution.values in
    let then : Setting = setting_of c.solve.new.domain.view.now c.solve.new.domain.kind c.solve.new.domain.start in
    let solved : Solves view.nodes rows (setting_of view c.args.kind c.args.start) =
    subst (Solves view.nodes rows) c.in-Ok.ensures.goes_on
    (subst (λ (nodes : List Node). Solves nodes rows then) c.graph.ensures.same c.in-Ok.ensures.least.solution) in
    solution_bounds view c.blocks-blocks.ensures.view c.args.start c.args.kind rows solved
