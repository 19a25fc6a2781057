use Rattle.std.proofs.Common.{arith}
use Rattle.sparse_graph.proofs.Tested.{made_plan, led-from_plan, own-from_plan}
use Rattle.sparse_graph.proofs.plan.is_plan.Goals as goal

pub returns-then-not-are_own : goal.returns-then-not-are_own
returns-then-not-are_own c = (
  λ t. absurd (cc),
  λ plan.
      let own = c.are_own.ensures.1 (own-from_plan c.args.nodes.now c.args.kept.now c.args.leads.now _ plan) in
      absurd (cc),
)

pub returns : goal.returns
returns c = (
  λ t. made_plan c.args.nodes.now c.args.kept.now c.args.leads.now c.args.ranks.now
      (omega arith) (c.starts_with_0.ensures.0 (cc)) (c.rises.ensures.0 (cc)) (c.are_own.ensures.0 (cc))
      (c.are_led.ensures.0 t),
  λ plan.
      c.are_led.ensures.1 (led-from_plan c.args.nodes.now c.args.kept.now c.args.leads.now c.args.ranks.now plan),
)
