use Rattle.std.proofs.Common.{◌≡◌, ℕ, List, length, map, Some, sym, subst}
use Rattle.std.proofs.lemmas.List.{map-id}
use Rattle.path_model.specs.declared.graph.Node.{Node}
use Rattle.lattice_fix.specs.declared.change.Change.{Change}
use Rattle.age_exists.specs.Retraced.{Retraced, with_changes, no_entries}
use Rattle.age_exists.specs.Seen.{seen_as}
use Rattle.age_exists.specs.Led.{AreLed}
use Rattle.age_exists.specs.Equations.{Setting, setting_with, framework_of}
use Rattle.age_exists.specs.Bounded.{IsFoundOver}
use Rattle.age_exists.proofs.Led.{replay_inside}
use Rattle.age_exists.proofs.Attests.{IsSolved, solved_led, IfOk-two}
use Rattle.age_exists.proofs.one_block.found_bounds.Goals as goal

-- the solver's answer, for the setting that it was asked for
abbrev Solves : List Node → List ℕ → List Change → Setting → Type 0
Solves nodes values changes s = IsSolved nodes (map (λ bound. bound) values) changes s

pub found_in-requires-clause-inside : goal.found_in-requires-clause-inside
found_in-requires-clause-inside c =
    let view = c.args.view.now in
    let values : List ℕ = c.in-Ok.solution.values in
    let changes : List Change = c.in-Ok.solution.changes in
    let domain = c.solve.new.domain in
    let then : Setting = setting_with domain.hits domain.view.now domain.start domain.own.now domain.block in
    let there : Solves c.graph.result.now values changes then =
    record { least = c.in-Ok.ensures.least; replay = c.in-Ok.ensures.replay } in
    let solved : Solves view.nodes values changes then =
    subst (λ (nodes : List Node). Solves nodes values changes then) c.graph.ensures.same there in
    replay_inside (framework_of then) view.nodes changes (map Some (map (λ (bound : ℕ). bound) values)) solved.replay

pub returns-in-Ok : goal.returns-in-Ok
returns-in-Ok c =
    let view = c.args.view.now in
    let values : List ℕ = c.in-Ok.solution.values in
    let changes : List Change = c.in-Ok.solution.changes in
    let domain = c.solve.new.domain in
    let then : Setting = setting_with domain.hits domain.view.now domain.start domain.own.now domain.block in
    let asked : Setting = setting_with c.args.hits view c.args.start c.args.own.now c.args.block in
    let there : Solves c.graph.result.now values changes then =
    record { least = c.in-Ok.ensures.least; replay = c.in-Ok.ensures.replay } in
    let solved : Solves view.nodes values changes asked =
    subst (Solves view.nodes values changes) c.in-Ok.ensures.goes_on
    (subst (λ (nodes : List Node). Solves nodes values changes then) c.graph.ensures.same there) in
    let t : Retraced = with_changes (no_entries (length view.nodes)) changes in
    let led : AreLed (framework_of asked) view.nodes values t =
    solved_led asked view.nodes values changes
    (subst (λ (numbers : List ℕ). IsSolved view.nodes numbers changes asked) (map-id values) solved) in
    IfOk-two c.found_in.result (λ found. found.bounds.items ≡ values) (λ found. seen_as found.steps ≡ t)
    (IsFoundOver asked)
    (λ found same retraced.
    subst (λ (bounds : List ℕ). AreLed (framework_of asked) view.nodes bounds (seen_as found.steps)) (sym same)
    (subst (AreLed (framework_of asked) view.nodes values) (sym retraced) led))
    c.found_in.ensures.bounds c.found_in.ensures.steps
