use Rattle.std.proofs.Common.{ℕ, ◌<◌, length, subst, sym, ap, ◌∙◌}
use Rattle.std.specs.Prelude.{slice_get}
use Rattle.std.proofs.lemmas.Option.{slice_get-get_or}
use Rattle.transition_spec.specs.Path.{IsSuccessor}
use Rattle.path_model.specs.Graph.{graph_step}
use Rattle.sparse_graph.specs.Plan.{origin_of, lead_of}
use Rattle.sparse_graph.proofs.Steps.{from_inside, origin_inside, toward_right}
use Rattle.sparse_graph.proofs.expand.toward.Goals as goal

pub node-here-requires : goal.node-here-requires
node-here-requires c =
    let inside = from_inside c.args.sparse.now c.origin.ensures.sparse c.args.from c.args.to c.requires in
    subst (λ (n : ℕ). n < length c.args.sparse.now.nodes) (sym c.origin.ensures.origin)
    (origin_inside c.args.sparse.now c.origin.ensures.sparse c.args.from inside)

pub returns-clause-node : goal.returns-clause-node
returns-clause-node c =
    slice_get-get_or c.args.sparse.now.kept c.args.from 0
    (from_inside c.args.sparse.now c.origin.ensures.sparse c.args.from c.args.to c.requires)

pub returns-clause-edge : goal.returns-clause-edge
returns-clause-edge c =
    let found = ap (slice_get c.args.sparse.now.nodes) (sym c.origin.ensures.origin) ∙ c.node-here.ensures.node in
    let right = toward_right c.args.sparse.now c.origin.ensures.sparse c.args.from c.args.to _ c.requires found in
    subst
    (λ (m : ℕ). IsSuccessor (graph_step c.args.sparse.now.nodes) (origin_of c.args.sparse.now.kept c.args.from) m)
    (sym c.toward_by.ensures) right.0

pub returns-clause-lead : goal.returns-clause-lead
returns-clause-lead c =
    let found = ap (slice_get c.args.sparse.now.nodes) (sym c.origin.ensures.origin) ∙ c.node-here.ensures.node in
    let right = toward_right c.args.sparse.now c.origin.ensures.sparse c.args.from c.args.to _ c.requires found in
    ap (lead_of c.args.sparse.now.leads) c.toward_by.ensures ∙ right.1
