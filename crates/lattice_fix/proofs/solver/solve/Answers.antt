use Rattle.std.proofs.Common.{◌≡◌, List, length, map, Some, sym, subst}
use Rattle.std.specs.List.{All}
use Rattle.path_model.specs.declared.graph.Node.{Node}
use Rattle.lattice_fix.specs.Solution.{IsLeast}
use Rattle.lattice_fix.specs.Replay.{Replays, nothing}
use Rattle.lattice_fix.specs.Solved.{Solved}
use Rattle.lattice_fix.specs.UnderWay.{framework_of, fits_in, data_in}
use Rattle.lattice_fix.proofs.Finished.{IsFinished, finished}
use Rattle.lattice_fix.proofs.solver.solve.Given.{Over}
use Rattle.lattice_fix.proofs.solver.solve.Goals as goal
use Rattle.lattice_fix.proofs.solver.solve.Goals.{In_ok-work_off}

-- where no node waits the solver has finished the graph
solved : (g : Over) (c : In_ok-work_off g) → let domain = c.work_off.new.domain in let work = c.work_off.new.work in
    IsFinished (framework_of g.D.Domain domain) (fits_in g.D.Domain domain) (data_in g.D.Domain domain) c.args.graph.now
    work.values.items work.changes.items
solved g c =
    let domain = c.work_off.new.domain in
    let work = c.work_off.new.work in
    let ended = c.in_ok-work_off.ensures in
    subst (λ (nodes : List Node). IsFinished (framework_of g.D.Domain domain) (fits_in g.D.Domain domain)
    (data_in g.D.Domain domain) nodes work.values.items work.changes.items) c.nodes-nodes.ensures.same
    (finished (framework_of g.D.Domain domain) (g.met.D.Domain.monotone domain) (fits_in g.D.Domain domain)
    (data_in g.D.Domain domain) c.nodes-nodes.result.now work.values.items work.changes.items work.waiting
    ended.under_way ended.settled ended.done)

pub of-requires : goal.of-requires
of-requires g c = record { filled = (solved g (goal.at.of-requires g c).In_ok-work_off).filled }

pub returns-clause-least : goal.returns-clause-least
returns-clause-least g d =
    let c : In_ok-work_off g = (goal.at.returns-clause-least g d).In_ok-work_off in
    let domain = c.work_off.new.domain in
    subst (λ (solved : Solved g.row.D-Value.Denot).
    IsLeast (framework_of g.D.Domain domain) c.args.graph.now (map (data_in g.D.Domain domain) solved.values))
    (sym d.of.ensures) (solved g c).least

pub returns-clause-fits : goal.returns-clause-fits
returns-clause-fits g d =
    let c : In_ok-work_off g = (goal.at.returns-clause-fits g d).In_ok-work_off in
    subst (λ (solved : Solved g.row.D-Value.Denot). All (fits_in g.D.Domain c.work_off.new.domain) solved.values)
    (sym d.of.ensures) (solved g c).all_fit

pub returns-clause-replay : goal.returns-clause-replay
returns-clause-replay g d =
    let c : In_ok-work_off g = (goal.at.returns-clause-replay g d).In_ok-work_off in
    let domain = c.work_off.new.domain in
    subst (λ (solved : Solved g.row.D-Value.Denot). Replays (framework_of g.D.Domain domain) c.args.graph.now
    (nothing c.args.graph.now) solved.changes (map Some (map (data_in g.D.Domain domain) solved.values)))
    (sym d.of.ensures) (solved g c).replay

pub returns-clause-one_each : goal.returns-clause-one_each
returns-clause-one_each g d =
    let c : In_ok-work_off g = (goal.at.returns-clause-one_each g d).In_ok-work_off in
    subst (λ (solved : Solved g.row.D-Value.Denot). length solved.values ≡ length c.args.graph.now)
    (sym d.of.ensures) (solved g c).one_each
