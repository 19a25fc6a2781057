use Rattle.std.proofs.Common.{◌≡◌, None, Some, sym, ◌∙◌}
use Rattle.std.proofs.lemmas.List.{get_or_read}
use Rattle.std.proofs.lemmas.Result.{on_ok_weaker}
use Rattle.lattice_fix.specs.Replay.{value_at}
use Rattle.lattice_fix.specs.UnderWay.{IsMovedFrom, Advances}
use Rattle.lattice_fix.proofs.Edges.{have_slots}
use Rattle.lattice_fix.proofs.Later.{is_later}
use Rattle.lattice_fix.proofs.Progress.{advances_trans, advances_later}
use Rattle.lattice_fix.proofs.solver.follow.Given.{Over}
use Rattle.lattice_fix.proofs.solver.follow.Goals as goal
use Rattle.lattice_fix.proofs.solver.follow.Goals.{In-Ok}

module _ (g : Over) (c : In-Ok g) where
  -- the node has the value that is transferred
  value_is : value_at c.args.work.now.values.items c.args.from ≡ Some c.in-Some.value
  value_is =
      let slots = have_slots c.requires.under_way c.args.from c.args.to c.requires.edge in
      let values = c.args.work.now.values.items in
      sym (get_or_read values c.args.from c.index.result.now slots.from c.index.ensures None) ∙ c.in-Some.is

  -- what was moved stands for the transfer of it
  moved : IsMovedFrom g.D.Domain c.transfer.new.self c.args.work.now c.args.from c.in-Ok.moved
  moved = record { fit = c.in-Ok.ensures.fits; value = c.in-Some.value; held = value_is; same = c.in-Ok.ensures.value }

  -- the domain went on by the transfer, and the work is as it was
  transferred : Advances g.D.Domain c.args.nodes.now c.args.domain.now c.args.work.now
      c.transfer.new.self c.args.work.now
  transferred = advances_later g.D.Domain c.args.nodes.now c.args.domain.now c.transfer.new.self c.args.work.now
      (is_later g.met.D.Domain c.args.domain.now c.transfer.new.self c.in-Ok.ensures.goes_on) c.requires.under_way

pub give-requires-clause-under_way : goal.give-requires-clause-under_way
give-requires-clause-under_way g c = (transferred g (goal.at.give-requires-clause-under_way g c).In-Ok).under_way

pub give-requires-clause-moved : goal.give-requires-clause-moved
give-requires-clause-moved g c = moved g (goal.at.give-requires-clause-moved g c).In-Ok

pub returns-clause-advances : goal.returns-clause-advances
returns-clause-advances g d =
    let c : In-Ok g = (goal.at.returns-clause-advances g d).In-Ok in
    on_ok_weaker d.give.result
    (advances_trans g.D.Domain c.args.nodes.now c.args.domain.now c.transfer.new.self c.args.work.now c.args.work.now
    d.give.new.domain d.give.new.work (transferred g c))
    d.give.ensures.advances
