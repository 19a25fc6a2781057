use Rattle.std.proofs.Common.{leb, leb-true, leb-false, rules}
use Rattle.std.proofs.lemmas.List.Sorted.{IsPartitionPoint-from_clause, IsPartitionedBy-leb}
use Rattle.path_model.specs.Graph.{address_of}
use Rattle.report_plan.proofs.order.count_up_to.Goals as goal

pub returns-clause-up_to : goal.returns-clause-up_to
returns-clause-up_to c =
    let parted = IsPartitionedBy-leb (address_of c.args.nodes.now) c.args.order.now c.args.address c.requires.rising in
    let point = IsPartitionPoint-from_clause (λ n. leb (address_of c.args.nodes.now n) c.args.address) _ _
    c.partition_point.ensures.partitioned parted (λ a r q k. search rules) in
    λ k d low h. leb-true _ _ (point.0 k d low h)

pub returns-clause-others : goal.returns-clause-others
returns-clause-others c =
    let parted = IsPartitionedBy-leb (address_of c.args.nodes.now) c.args.order.now c.args.address c.requires.rising in
    let point = IsPartitionPoint-from_clause (λ n. leb (address_of c.args.nodes.now n) c.args.address) _ _
    c.partition_point.ensures.partitioned parted (λ a r q k. search rules) in
    λ k d low h. leb-false _ _ (point.1 k d low h)
