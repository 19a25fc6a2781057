use Rattle.std.proofs.Common.{sym}
use Rattle.std.proofs.lemmas.List.Elements.{all_zip_more}
use Rattle.std.proofs.lemmas.Option.{get_or_from_slice_get, slice_get_within}
use Rattle.focus_values.specs.Exact.{IsCopy}
use Rattle.focus_values.proofs.values.copies.Goals as goal

pub loop-node-preserved : goal.loop-node-preserved
loop-node-preserved c =
    let value = c.before-in-loop-node.result.now in
    let is = c.before-in-loop-node.ensures.value in
    rw c.in_ok-push.ensures.items (all_zip_more IsCopy c.args.solution.now.values c.loop-node.copies.items
    c.loop-node.node value c.in_ok-copy_of_both.field-0
    (slice_get_within c.args.solution.now.values c.loop-node.node value is)
    (sym (get_or_from_slice_get c.args.solution.now.values c.loop-node.node value value is))
    c.loop-node.invariant c.in_ok-copy_of_both.ensures)
