use Rattle.std.proofs.Common.{List, subst}
use Rattle.std.proofs.lemmas.Result.{IfOk-weaker}
use Rattle.path_model.specs.declared.graph.Node.{Node}
use Rattle.focus_values.specs.Marks.{Setting}
use Rattle.focus_values.specs.Exact.{setting_of, AreExact, AreCopies}
use Rattle.focus_values.proofs.Solved.{IsSolved, exact_copies}
use Rattle.focus_values.proofs.values.younger_sets.Goals as goal

pub returns-clause-exact : goal.returns-clause-exact
returns-clause-exact c =
    let values = c.in-Ok.solution.values in
    let changes = c.in-Ok.solution.changes in
    let then : Setting = setting_of c.solve.new.domain.view.now c.solve.new.domain.start
    c.solve.new.domain.block in
    let there : IsSolved c.graph.result.now values changes then = record {
      least = c.in-Ok.ensures.least;
      fits = c.in-Ok.ensures.fits;
      replay = c.in-Ok.ensures.replay;
      below = c.solution_laws.ensures.above c.graph.result.now;
    } in
    let solved : IsSolved c.args.view.now.nodes values changes
    (setting_of c.args.view.now c.args.start c.args.block) =
    subst (IsSolved c.args.view.now.nodes values changes) c.in-Ok.ensures.goes_on
    (subst (λ (nodes : List Node). IsSolved nodes values changes then) c.graph.ensures.same there) in
    IfOk-weaker c.copies.result (λ copies. AreCopies values copies.items)
    (λ sets. AreExact c.args.view.now c.args.start c.args.block sets.items)
    (λ copies same. exact_copies c.args.view.now c.blocks-blocks.ensures.view c.args.start c.args.block values changes
    solved copies.items same) c.copies.ensures
