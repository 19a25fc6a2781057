use Rattle.std.proofs.Common.{◌+◌, leb, leb-true, rules}
use Rattle.std.proofs.lemmas.List.Sorted.{IsPartitionPoint-from_clause, IsPartitionedBy-leb}
use Rattle.elf_image.proofs.Found.{rising_ends}
use Rattle.elf_image.proofs.image.ended_by.Goals as goal

pub returns-clause-ended : goal.returns-clause-ended
returns-clause-ended c =
    let parted = IsPartitionedBy-leb (λ s. s.at + s.size) c.args.segments.now c.args.p (rising_ends _ c.requires) in
    let point = IsPartitionPoint-from_clause (λ s. leb (s.at + s.size) c.args.p) _ _
    c.partition_point.ensures.partitioned parted (λ a r q k. search rules) in
    λ k d low h. leb-true _ _ (point.0 k d low h)
