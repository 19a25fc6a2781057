use Rattle.std.proofs.Common.{ℕ, List, subst}
use Rattle.std.specs.Prelude.{◌↔◌, Contains}
use Rattle.path_model.specs.declared.graph.Node.{Node}
use Rattle.node_spec.specs.Plan.{Layout, IsNodeAt}
use Rattle.report_plan.specs.Kept.{AreFetched}
use Rattle.report_plan.proofs.layout.nodes_of.Goals as goal

pub returns-clause-here : goal.returns-clause-here
returns-clause-here c =
    let P : Layout → Type 0 = λ l. (n : ℕ) → Contains c.nodes_at.result.now n ↔ IsNodeAt l.nodes c.args.address n in
    let Q : List Node → Type 0 =
    λ nodes. (n : ℕ) → Contains c.nodes_at.result.now n ↔ IsNodeAt nodes c.args.address n in
    subst P c.layout.view_is (subst Q c.graph.ensures.same (subst Q c.nodes.ensures.same c.nodes_at.ensures))

pub returns-clause-fetched : goal.returns-clause-fetched
returns-clause-fetched c =
    let P : Layout → Type 0 = λ l. AreFetched l.configurations l.nodes in
    subst P c.layout.view_is
    (record { one_each = c.graph.ensures.one_each; fetches = c.graph.ensures.fetches })
