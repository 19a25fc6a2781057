use Rattle.std.proofs.Common.{leb, leb-true, leb-false, rules}
use Rattle.std.proofs.lemmas.List.Sorted.{IsPartitionPoint-from_clause, IsPartitionedBy-leb}
use Rattle.elf_image.proofs.Found.{rising_starts}
use Rattle.elf_image.proofs.image.begun_by.Goals as goal

pub returns-clause-begun : goal.returns-clause-begun
returns-clause-begun c =
    let parted = IsPartitionedBy-leb (λ s. s.at) c.args.segments.now c.args.p (rising_starts _ c.requires) in
    let point = IsPartitionPoint-from_clause (λ s. leb s.at c.args.p) _ _ c.partition_point.ensures.partitioned parted
    (λ a r q k. search rules) in
    λ k d low h. leb-true _ _ (point.0 k d low h)

pub returns-clause-above : goal.returns-clause-above
returns-clause-above c =
    let parted = IsPartitionedBy-leb (λ s. s.at) c.args.segments.now c.args.p (rising_starts _ c.requires) in
    let point = IsPartitionPoint-from_clause (λ s. leb s.at c.args.p) _ _ c.partition_point.ensures.partitioned parted
    (λ a r q k. search rules) in
    λ k d low h. leb-false _ _ (point.1 k d low h)
