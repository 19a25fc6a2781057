use Rattle.std.proofs.Common.{rules}
use Rattle.call_expand.proofs.Ordered.{sorted-by}
use Rattle.call_expand.proofs.search.sort.Goals as goal

pub returns-clause-sorted : goal.returns-clause-sorted
returns-clause-sorted c =
    sorted-by c.args.stacks.now c.sort_unstable_by.new.self.items c.sort_unstable_by.ensures.sorted
    (λ a r f' k. search rules)
