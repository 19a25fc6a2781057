use Rattle.report_plan.proofs.Placed.{below-up_to, between-at}
use Rattle.report_plan.proofs.order.nodes_at.Goals as goal

pub slice_bounds-result-count : goal.slice_bounds-result-count
slice_bounds-result-count c =
    let nodes = c.args.nodes.now in
    let order = c.args.order.now in
    let one = c.count_below-first.ensures in
    let other = c.count_up_to-last.ensures in
    below-up_to nodes order c.args.address c.count_below-first.result c.count_up_to-last.result
    (record { below = one.below; others = one.others; within = one.within })
    (record { up_to = other.up_to; others = other.others; within = other.within })

pub slice_bounds-result-start : goal.slice_bounds-result-start
slice_bounds-result-start c = slice_bounds-result-count c

pub returns : goal.returns
returns c =
    let nodes = c.args.nodes.now in
    let order = c.args.order.now in
    let one = c.count_below-first.ensures in
    let other = c.count_up_to-last.ensures in
    between-at nodes order c.args.address c.count_below-first.result c.count_up_to-last.result c.requires
    (record { below = one.below; others = one.others; within = one.within })
    (record { up_to = other.up_to; others = other.others; within = other.within })
