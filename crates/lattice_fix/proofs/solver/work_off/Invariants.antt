use Rattle.std.proofs.Common.{length}
use Rattle.lattice_fix.specs.UnderWay.{IsUnderWay, AllAreClear, framework_of}
use Rattle.lattice_fix.proofs.Budget.{budget}
use Rattle.lattice_fix.proofs.solver.work_off.Given as goal

abbrev pub invariant-loop-node : goal.invariant-loop-node
invariant-loop-node g l = record {
  goes_on : g.D.Domain.goes_on (g.D.Domain.state l.fn.domain) (g.D.Domain.state l.domain);
  under_way : IsUnderWay g.D.Domain l.nodes l.domain l.work;
  settled : AllAreClear g.D.Domain l.nodes l.domain l.work;
}

abbrev pub decreases-loop-node : goal.decreases-loop-node
decreases-loop-node g l =
    budget (length l.nodes) (framework_of g.D.Domain l.domain).height (length l.work.changes.items) l.work.waiting
