use Rattle.std.proofs.Common.{arith}
use Rattle.std.proofs.lemmas.Result.{on_ok_weaker}
use Rattle.lattice_fix.proofs.Edges.{have_slots}
use Rattle.lattice_fix.proofs.Progress.{advances_trans}
use Rattle.lattice_fix.proofs.solver.fork.Goals as goal

pub is_other_with_value-requires : goal.is_other_with_value-requires
is_other_with_value-requires g c =
    let slots = have_slots c.requires.under_way c.args.from c.args.first c.requires.first in
    omega (arith, slots.to)

pub is_other_with_value-requires-2 : goal.is_other_with_value-requires-2
is_other_with_value-requires-2 g c =
    let slots = have_slots c.requires.under_way c.args.from c.args.second c.requires.second in
    omega (arith, slots.to)

pub returns-clause-domain : goal.returns-clause-domain
returns-clause-domain g c = record {
  goes_on = g.met.D.Domain.transitive _ _ _ c.in_ok-follow.ensures.domain.goes_on c.follow-2.ensures.domain.goes_on;
  stop = c.follow-2.ensures.domain.stop;
}

pub returns-clause-advances : goal.returns-clause-advances
returns-clause-advances g c = on_ok_weaker c.follow-2.result
    (advances_trans g.D.Domain c.args.nodes.now c.args.domain.now c.follow.new.domain c.args.work.now c.follow.new.work
    c.follow-2.new.domain c.follow-2.new.work c.in_ok-follow.ensures.advances)
    c.follow-2.ensures.advances

pub returns-clause-first : goal.returns-clause-first
returns-clause-first g c = on_ok_weaker c.follow-2.result
    (λ two. two.progress.keeps c.args.from c.args.first c.in_ok-follow.ensures.clear) c.follow-2.ensures.advances
