use Rattle.std.proofs.Common.{arith}
use Rattle.path_model.proofs.Marked.{unmarked}
use Rattle.path_model.proofs.graph.all_reached.Goals as goal

pub mark_all-requires : goal.mark_all-requires
mark_all-requires c = λ m. unmarked 65536 m

pub returns : goal.returns
returns c = (
  λ t m up below. c.mark_all.ensures.sound m (c.all_marked.ensures.0 t m up below),
  λ reached. c.all_marked.ensures.1 (λ m up below.
      let from = reached m up below in
      c.mark_all.ensures.complete from.0 m (omega (arith, from.1)) from.1 (omega arith) from.2),
)
