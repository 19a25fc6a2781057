use Rattle.std.proofs.Common.{length, ap, sym, ◌∙◌, arith}
use Rattle.std.specs.Prelude.{nat_le}
use Rattle.std.specs.List.{insert, position}
use Rattle.elf_image.proofs.Placed.{placed_at, placed_last}
use Rattle.elf_image.proofs.in_order.put.Goals as goal
use Rattle.elf_image.proofs.in_order.put.Goals.{in-Some, in-None}

pub returns : goal.returns
returns c =
    let others = c.args.segments.now.items in
    let segment = c.args.segment in
    let same = ap (λ items. position (λ next. nat_le segment.at next.at) items) c.deref.ensures.value in
    elim c.match-first_from.branch [
      | in-Some w ↦ c.in_ok-insert.ensures.items ∙ ap (λ n. insert others n segment) w.place-is
          ∙ sym (placed_at segment others w.in-Some.place (w.in-Some.ensures ∙ same))
      | in-None w ↦ c.in_ok-insert.ensures.items ∙ ap (λ n. insert others n segment)
          (omega (arith, ap length c.deref.ensures.value)) ∙ sym (placed_last segment others (w.in-None.ensures ∙ same))
    ]
