use Rattle.std.proofs.Common.{◌≡◌, ℕ, ◌+◌, ◌*◌, ◌<◌, ◌≤◌, Bool, List, length, sym, ◌∙◌, subst}
use Rattle.std.specs.Option.{option_map}
use Rattle.std.proofs.lemmas.List.{length-map}
use Rattle.lattice_fix.specs.Course.{IsCourse}
use Rattle.lattice_fix.specs.UnderWay.{framework_of, fits_in, data_in, held_in}
use Rattle.lattice_fix.specs.Waits.{IsDone}
use Rattle.lattice_fix.proofs.Budget.{budget, count_of-taken, budget_falls, count_of}
use Rattle.lattice_fix.proofs.Chains.{length-replay}
use Rattle.lattice_fix.proofs.solver.work_off.Goals as goal

pub loop-node-smaller : goal.loop-node-smaller
loop-node-smaller g c =
    let took = c.in-Some.ensures in
    let went = c.in_ok-spread.ensures in
    let D = g.D.Domain in
    let domain = c.spread.new.domain in
    let work = c.spread.new.work in
    let old : ℕ = length c.loop-node.work.changes.items in
    let new : ℕ = length work.changes.items in
    let height : ℕ = (framework_of D domain).height in
    let nodes : ℕ = length c.args.nodes.now in
    let waited : List Bool = c.loop-node.work.waiting in
    let fell = subst (λ (w : List Bool). count_of w + 1 ≡ count_of waited) (sym took.taken)
    (count_of-taken waited c.in-Some.node took.inside took.waited) in
    let few : new ≤ nodes * height =
    length-replay (framework_of D domain) (g.met.D.Domain.monotone domain) c.args.nodes.now work.changes.items
    (held_in D domain work) went.advances.under_way.replay
    (length-map work.values.items (option_map (data_in D domain)) ∙ went.advances.under_way.one_each) in
    subst (λ (b : D.Setting). budget nodes height new work.waiting < budget nodes (D.framework b).height old waited)
    (g.met.D.Domain.same_setting (D.state c.loop-node.domain) (D.state domain) went.domain.goes_on)
    (budget_falls nodes height old new waited c.take.new.self work.waiting few went.advances.progress.longer
    went.advances.under_way.one_flag_each fell went.advances.progress.calm)

pub returns-clause-under_way : goal.returns-clause-under_way
returns-clause-under_way g c =
    let D = g.D.Domain in
    let domain = c.loop-node.domain in
    let work = c.loop-node.work in
    subst (λ (w : List Bool). IsCourse (framework_of D domain) (fits_in D domain) (data_in D domain)
    c.args.nodes.now work.values.items work.changes.items w)
    (sym c.in_default.ensures.kept) c.loop-node.invariant.under_way

pub returns-clause-done : goal.returns-clause-done
returns-clause-done g c =
    subst (λ (w : List Bool). (n : ℕ) → IsDone w n) (sym c.in_default.ensures.kept) c.in_default.ensures.none
