use Rattle.std.proofs.Common.{ap, length, drop, arith, length-drop}
use Rattle.std.proofs.lemmas.List.Sorted.{length_permutation}
use Rattle.call_expand.proofs.Numbered.{length-points}
use Rattle.call_expand.proofs.search.number_from.Goals as goal

pub add_new-requires : goal.add_new-requires
add_new-requires c =
    omega (
      arith,
      c.requires.room,
      ap length c.deref.ensures.value,
      length_permutation c.in_ok-found.found.items c.sort.new.found.items c.sort.ensures.same,
      ap length c.in_ok-found.ensures,
      length-points (drop c.args.start c.args.edges.now),
      length-drop c.args.start c.args.edges.now,
    )
