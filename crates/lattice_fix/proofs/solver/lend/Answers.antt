use Rattle.std.proofs.Common.{◌≡◌, None, sym, ◌∙◌, ap, arith}
use Rattle.std.proofs.lemmas.List.{get_or_read}
use Rattle.std.proofs.lemmas.Result.{on_ok_weaker}
use Rattle.lattice_fix.specs.Course.{IsNoted}
use Rattle.lattice_fix.specs.Replay.{value_at}
use Rattle.lattice_fix.proofs.Came.{ComesAlong, comes_along}
use Rattle.lattice_fix.proofs.Edges.{HaveSlots, have_slots}
use Rattle.lattice_fix.proofs.Later.{is_later}
use Rattle.lattice_fix.proofs.solver.lend.Given.{Over}
use Rattle.lattice_fix.proofs.solver.lend.Goals as goal
use Rattle.lattice_fix.proofs.solver.lend.Goals.{After-note}

module _ (g : Over) (c : After-note g) where
  -- the slot is there
  slots : HaveSlots c.args.work.now.values.items c.args.work.now.waiting c.args.from c.args.to
  slots = have_slots c.requires.under_way c.args.from c.args.to c.requires.edge

  -- it has what the node has
  found : c.index_mut.result.now ≡ value_at c.args.work.now.values.items c.args.to
  found =
      let slot = c.index_mut.result.now in
      get_or_read c.args.work.now.values.items c.args.to slot slots.to c.index_mut.ensures.value None

  -- where the raise is noted the solver advances, and the edge is then clear
  comes : IsNoted c.in-Ok.raised c.args.from c.args.to c.args.work.now.changes.items c.args.work.now.waiting
      c.note.new.work.changes.items c.note.new.work.waiting →
      ComesAlong g.D.Domain c.args.nodes.now c.args.domain.now c.args.work.now c.join.new.domain c.note.new.work
      c.args.from c.args.to
  comes noted = comes_along g.D.Domain c.args.domain.now c.join.new.domain
      (is_later g.met.D.Domain c.args.domain.now c.join.new.domain c.in-Ok.ensures.goes_on)
      (g.met.D.Domain.monotone c.join.new.domain) c.args.nodes.now c.args.work.now c.note.new.work c.requires.under_way
      c.args.from c.args.to c.requires.edge c.args.moved.now c.requires.moved
      c.in-Ok.raised c.index_mut.result.now c.join.new.slot found c.in-Ok.ensures.received
      (ap (λ values. values.items) c.note.ensures.values) noted

pub index_mut-requires : goal.index_mut-requires
index_mut-requires g c =
    let slots = have_slots c.requires.under_way c.args.from c.args.to c.requires.edge in
    omega (arith, slots.to)

pub join-requires-clause-slot : goal.join-requires-clause-slot
join-requires-clause-slot g c = λ v is.
    let slots = have_slots c.requires.under_way c.args.from c.args.to c.requires.edge in
    let slot = c.index_mut.result.now in
    c.requires.under_way.fit c.args.to v
    (sym (get_or_read c.args.work.now.values.items c.args.to slot slots.to c.index_mut.ensures.value None) ∙ is)

pub note-requires : goal.note-requires
note-requires g c = (have_slots c.requires.under_way c.args.from c.args.to c.requires.edge).flag

pub returns-in-Ok-clause-advances : goal.returns-in-Ok-clause-advances
returns-in-Ok-clause-advances g c =
    on_ok_weaker c.note.result (λ noted. (comes g c noted).advances) c.note.ensures.noted

pub returns-in-Ok-clause-clear : goal.returns-in-Ok-clause-clear
returns-in-Ok-clause-clear g c = on_ok_weaker c.note.result (λ noted. (comes g c noted).clear) c.note.ensures.noted
