use Rattle.std.proofs.Common.{◌≡◌, ℕ, List, map, subst, sym, ap, ◌∙◌}
use Rattle.path_model.specs.declared.graph.Node.{Node}
use Rattle.path_model.specs.Graph.{IsGraph}
use Rattle.sparse_graph.specs.Sparse.{moved_at}
use Rattle.sparse_graph.proofs.Small.{small_graph}
use Rattle.sparse_graph.proofs.build.sparse.Goals as goal

pub returns-clause-none : goal.returns-clause-none
returns-clause-none c plan =
    let whole : List Node = c.args.whole.now in
    let same : c.in_ok-nodes.nodes.items ≡ map (moved_at whole c.args.leads.items) c.args.kept.items =
    c.in_ok-nodes.ensures
    ∙ (ap (λ (ns : List Node). map (moved_at ns c.deref-5.result.now) c.deref-4.result.now) c.nodes-2.ensures.same
    ∙ (ap (λ (ls : List ℕ). map (moved_at whole ls) c.deref-4.result.now) c.deref-5.ensures.value
    ∙ ap (λ (ks : List ℕ). map (moved_at whole c.args.leads.items) ks) c.deref-4.ensures.value)) in
    c.in-None.ensures.none (subst (λ (ns : List Node). IsGraph ns) (sym same)
    (small_graph whole c.nodes-2.ensures.graph c.args.kept.items c.args.leads.items c.args.ranks.items plan))
