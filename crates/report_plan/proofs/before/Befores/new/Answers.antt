use Rattle.std.proofs.Common.{◌≡◌, ℕ, List, length, ap, sym, ◌∙◌, subst, arith}
use Rattle.std.proofs.lemmas.List.FromFn.{length-range_with_len}
use Rattle.report_plan.specs.Kept.{AreBefore}
use Rattle.report_plan.proofs.Notes.{all-noted, row-back}
use Rattle.report_plan.proofs.before.Befores.new.Goals as goal

pub returns : goal.returns
returns c =
    let nodes = c.args.nodes.now in
    let new = c.note_all.new.before in
    let old = c.in_ok-before.before.items in
    let long = ap length c.in_ok-before.ensures ∙ length-range_with_len 0 (length nodes) in
    let as_long : length new ≡ length old = omega (arith, long, c.note_all.ensures.one_each) in
    let back = row-back new old c.in_ok-before.before.len (omega (arith, c.in_ok-before.before.ok)) as_long in
    let P : List ℕ → Type 0 = AreBefore nodes in
    subst P (sym back) (all-noted nodes new c.requires c.note_all.ensures)
