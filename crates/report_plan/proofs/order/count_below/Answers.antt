use Rattle.std.proofs.Common.{ltb, ltb-true, ltb-false, rules}
use Rattle.std.proofs.lemmas.List.Sorted.{IsPartitionPoint-from_clause, IsPartitionedBy-ltb}
use Rattle.path_model.specs.Graph.{address_of}
use Rattle.report_plan.proofs.order.count_below.Goals as goal

pub returns-clause-below : goal.returns-clause-below
returns-clause-below c =
    let parted = IsPartitionedBy-ltb (address_of c.args.nodes.now) c.args.order.now c.args.address c.requires.rising in
    let point = IsPartitionPoint-from_clause (λ n. ltb (address_of c.args.nodes.now n) c.args.address) _ _
    c.partition_point.ensures.partitioned parted (λ a r q k. search rules) in
    λ k d low h. ltb-true _ _ (point.0 k d low h)

pub returns-clause-others : goal.returns-clause-others
returns-clause-others c =
    let parted = IsPartitionedBy-ltb (address_of c.args.nodes.now) c.args.order.now c.args.address c.requires.rising in
    let point = IsPartitionPoint-from_clause (λ n. ltb (address_of c.args.nodes.now n) c.args.address) _ _
    c.partition_point.ensures.partitioned parted (λ a r q k. search rules) in
    λ k d low h. ltb-false _ _ (point.1 k d low h)
