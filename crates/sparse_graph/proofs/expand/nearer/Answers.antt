use Rattle.std.proofs.Common.{ℕ, ◌<◌, subst, sym, ap, ◌∙◌}
use Rattle.transition_spec.specs.Path.{IsSuccessor}
use Rattle.path_model.specs.Graph.{graph_step}
use Rattle.sparse_graph.specs.Plan.{lead_of, rank_of}
use Rattle.sparse_graph.proofs.Steps.{nearer_right, nearer_lead}
use Rattle.sparse_graph.proofs.expand.nearer.Goals as goal

pub returns-clause-edge : goal.returns-clause-edge
returns-clause-edge c =
    let right = nearer_right c.args.sparse.now c.node-here.ensures.sparse c.args.node _ c.requires.inside
    c.requires.dropped c.node-here.ensures.node in
    subst (λ (m : ℕ). IsSuccessor (graph_step c.args.sparse.now.nodes) c.args.node m) (sym c.nearer_by.ensures) right.0

pub returns-clause-lead : goal.returns-clause-lead
returns-clause-lead c =
    let right = nearer_right c.args.sparse.now c.node-here.ensures.sparse c.args.node _ c.requires.inside
    c.requires.dropped c.node-here.ensures.node in
    ap (lead_of c.args.sparse.now.leads) c.nearer_by.ensures
    ∙ nearer_lead c.args.sparse.now c.node-here.ensures.sparse c.args.node _ c.requires.inside c.requires.dropped
    right.0

pub returns-clause-nearer : goal.returns-clause-nearer
returns-clause-nearer c =
    let right = nearer_right c.args.sparse.now c.node-here.ensures.sparse c.args.node _ c.requires.inside
    c.requires.dropped c.node-here.ensures.node in
    subst (λ (m : ℕ). rank_of c.args.sparse.now.ranks m < rank_of c.args.sparse.now.ranks c.args.node)
    (sym c.nearer_by.ensures) right.1
