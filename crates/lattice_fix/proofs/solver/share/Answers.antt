use Rattle.std.proofs.Common.{◌≡◌, ◌≢◌, None, Some, sym, ◌∙◌}
use Rattle.std.proofs.lemmas.List.{get_or_read}
use Rattle.std.proofs.lemmas.Result.{on_ok_weaker}
use Rattle.lattice_fix.specs.Replay.{value_at}
use Rattle.lattice_fix.specs.UnderWay.{IsMovedFrom, Advances}
use Rattle.lattice_fix.proofs.Edges.{have_slots}
use Rattle.lattice_fix.proofs.Later.{is_later, moved_later, moved_kept}
use Rattle.lattice_fix.proofs.Progress.{advances_trans, advances_later}
use Rattle.lattice_fix.proofs.solver.share.Given.{Over}
use Rattle.lattice_fix.proofs.solver.share.Goals as goal
use Rattle.lattice_fix.proofs.solver.share.Goals.{In-Ok}

module _ (g : Over) (c : In-Ok g) where
  -- the node has the value that is transferred
  value_is : value_at c.args.work.now.values.items c.args.from ≡ Some c.in-Some.value
  value_is =
      let slots = have_slots c.requires.under_way c.args.from c.args.other c.requires.to_other in
      let values = c.args.work.now.values.items in
      sym (get_or_read values c.args.from c.index.result.now slots.from c.index.ensures None) ∙ c.in-Some.is

  -- what was moved stands for the transfer of it
  moved : IsMovedFrom g.D.Domain c.transfer.new.self c.args.work.now c.args.from c.in-Ok.moved
  moved = record { fit = c.in-Ok.ensures.fits; value = c.in-Some.value; held = value_is; same = c.in-Ok.ensures.value }

  -- the domain went on by the transfer, and the work is as it was
  transferred : Advances g.D.Domain c.args.nodes.now c.args.domain.now c.args.work.now
      c.transfer.new.self c.args.work.now
  transferred = advances_later g.D.Domain c.args.nodes.now c.args.domain.now c.transfer.new.self c.args.work.now
      (is_later g.met.D.Domain c.args.domain.now c.transfer.new.self c.in-Ok.ensures.goes_on) c.requires.under_way

pub lend-requires-clause-under_way : goal.lend-requires-clause-under_way
lend-requires-clause-under_way g c = (transferred g (goal.at.lend-requires-clause-under_way g c).In-Ok).under_way

pub lend-requires-clause-moved : goal.lend-requires-clause-moved
lend-requires-clause-moved g c = moved g (goal.at.lend-requires-clause-moved g c).In-Ok

pub give-requires-clause-moved : goal.give-requires-clause-moved
give-requires-clause-moved g d =
    let c : In-Ok g = (goal.at.give-requires-clause-moved g d).In-Ok in
    let apart : c.args.from ≢ c.args.other = λ same. c.requires.held.apart (sym same) in
    let lent = is_later g.met.D.Domain c.transfer.new.self d.lend.new.domain d.in_ok-lend.ensures.domain.goes_on in
    moved_kept g.D.Domain d.lend.new.domain c.args.work.now d.lend.new.work c.args.from c.in-Ok.moved
    (d.in_ok-lend.ensures.others c.args.from apart)
    (moved_later g.D.Domain c.transfer.new.self d.lend.new.domain lent c.args.nodes.now c.args.work.now
    (transferred g c).under_way c.args.from c.in-Ok.moved (moved g c))

pub returns-clause-domain : goal.returns-clause-domain
returns-clause-domain g c = record {
  goes_on = g.met.D.Domain.transitive _ _ _
      (g.met.D.Domain.transitive _ _ _ c.in-Ok.ensures.goes_on c.in_ok-lend.ensures.domain.goes_on)
      c.give.ensures.domain.goes_on;
  stop = c.give.ensures.domain.stop;
}

pub returns-clause-advances : goal.returns-clause-advances
returns-clause-advances g d =
    let c : In-Ok g = (goal.at.returns-clause-advances g d).In-Ok in
    on_ok_weaker d.give.result
    (advances_trans g.D.Domain c.args.nodes.now c.args.domain.now d.lend.new.domain c.args.work.now d.lend.new.work
    d.give.new.domain d.give.new.work
    (advances_trans g.D.Domain c.args.nodes.now c.args.domain.now c.transfer.new.self c.args.work.now c.args.work.now
    d.lend.new.domain d.lend.new.work (transferred g c) d.in_ok-lend.ensures.advances))
    d.give.ensures.advances

pub returns-clause-other : goal.returns-clause-other
returns-clause-other g c = on_ok_weaker c.give.result
    (λ given. given.progress.keeps c.args.from c.args.other c.in_ok-lend.ensures.clear) c.give.ensures.advances
