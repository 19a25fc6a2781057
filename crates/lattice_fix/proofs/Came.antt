-- What holds of the solver's work once a value came along an edge, and the domain went on.
use Rattle.std.proofs.Common.{◌≡◌, ℕ, Bool, List, slice_set, Option, sym, subst}
use Rattle.transition_spec.specs.Path.{IsSuccessor}
use Rattle.path_model.specs.declared.graph.Node.{Node}
use Rattle.path_model.specs.Graph.{graph_step}
use Rattle.lattice_fix.specs.declared.domain.Domain.{Ghosts}
use Rattle.lattice_fix.specs.declared.solver.Work.{Work}
use Rattle.lattice_fix.specs.Framework.{Framework, IsMonotone}
use Rattle.lattice_fix.specs.Replay.{value_at}
use Rattle.lattice_fix.specs.Course.{IsCourse, IsClear, IsProgress, IsNoted, data_of}
use Rattle.lattice_fix.specs.UnderWay.{IsUnderWay, IsClearAt, IsMovedFrom, Receives, Advances, framework_of, fits_in, data_in, held_in}
use Rattle.lattice_fix.proofs.Carried.{course_carried, clear_carried, progress_carried}
use Rattle.lattice_fix.proofs.Progress.{advances_trans, advances_later}
use Rattle.lattice_fix.proofs.Later.{IsLater, under_way_later, moved_later}

-- the solver advances, and the edge is then clear
pub record ComesAlong {Self V S : Type 0} (g : Ghosts Self V S) (nodes : List Node) (before : Self) (old : Work V)
    (domain : Self) (new : Work V) (from to : ℕ) : Type 0 where
  pub advances : Advances g nodes before old domain new
  pub clear : IsClearAt g domain new from to

module _ {Self V S : Type 0} (g : Ghosts Self V S) (before domain : Self) (later : IsLater g before domain)
    (M : IsMonotone (framework_of g domain))
    (nodes : List Node) (old new : Work V) (course : IsUnderWay g nodes before old)
    (from to : ℕ) (edge : IsSuccessor (graph_step nodes) from to) (moved : V) (is : IsMovedFrom g before old from moved)
    (raised : Bool) (was slot : Option V) (found : was ≡ value_at old.values.items to)
    (got : Receives g domain was moved raised slot)
    (leaves : new.values.items ≡ slice_set old.values.items to slot)
    (noted : IsNoted raised from to old.changes.items old.waiting new.changes.items new.waiting) where
  -- the framework
  abbrev F : Framework g.Data
  F = framework_of g domain

  -- which values are fit
  abbrev fits : V → Type 0
  fits = fits_in g domain

  -- what a value stands for
  abbrev stands : V → g.Data
  stands = data_in g domain

  -- what the slot got, at the node
  got_there : Receives g domain (value_at old.values.items to) moved raised slot
  got_there = subst (λ (o : Option V). Receives g domain o moved raised slot) found got

  -- the solver is still under way when the domain has gone on
  course_then : IsUnderWay g nodes domain old
  course_then = under_way_later g before domain later nodes old course

  -- what was moved still stands for the transfer then
  moved_then : IsMovedFrom g domain old from moved
  moved_then = moved_later g before domain later nodes old course from moved is

  -- the solver is under way with what the slot got
  course_came : IsUnderWay g nodes domain new
  course_came =
      subst (λ (vs : List (Option V)). IsCourse F fits stands nodes vs new.changes.items new.waiting) (sym leaves)
      (course_carried F M fits stands nodes old.values.items old.changes.items old.waiting course_then
      from to edge moved moved_then raised slot got_there new.changes.items new.waiting noted)

  -- the edge is clear
  clear_along : IsClearAt g domain new from to
  clear_along = subst (λ (vs : List (Option V)). IsClear F (data_of stands vs) new.waiting from to) (sym leaves)
      (clear_carried F M fits stands nodes old.values.items old.changes.items old.waiting course_then
      from to edge moved moved_then raised slot got_there new.changes.items new.waiting noted)

  -- the solver went on from the old work
  progress_came : IsProgress F (held_in g domain old) old.changes.items old.waiting
      F (held_in g domain new) new.changes.items new.waiting
  progress_came = subst (λ (vs : List (Option V)). IsProgress F (held_in g domain old) old.changes.items old.waiting
      F (data_of stands vs) new.changes.items new.waiting) (sym leaves)
      (progress_carried F M fits stands nodes old.values.items old.changes.items old.waiting course_then
      from to edge moved moved_then raised slot got_there new.changes.items new.waiting noted)

  -- the solver advances, and the edge is clear
  pub comes_along : ComesAlong g nodes before old domain new from to
  comes_along = record {
    advances = advances_trans g nodes before domain old old domain new
        (advances_later g nodes before domain old later course)
        (record { under_way = course_came; progress = progress_came });
    clear = clear_along;
  }
