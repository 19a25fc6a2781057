use Rattle.std.proofs.Common.{◌≡◌, Some, None, rules, sym, subst}
use Rattle.std.specs.Prelude.{List, slice_get, slice_index_or}
use Rattle.path_model.specs.declared.graph.Node.{Node}
use Rattle.icache_top.proofs.GraphText.{line_is, node_is}
use Rattle.icache_top.proofs.graph.line_of.Goals as goal

pub returns : goal.returns
returns c =
    let e = c.args.expanded.now in
    let P : List Node → Type 0 =
    λ nodes. slice_get e.nodes c.args.node ≡ Some (slice_index_or nodes c.args.node
    (record { at = 0; first = None; second = None })) in
    let nodes : c.nodes.result.now ≡ e.nodes = search rules in
    let node : slice_get e.nodes c.args.node ≡ Some (slice_index_or c.nodes.result.now c.args.node
    (record { at = 0; first = None; second = None })) =
    subst P (sym nodes) (node_is e.nodes c.args.node _ c.requires.inside) in
    line_is e c.args.node _ _ _ c.requires.inside c.requires.one_each node c.config-config.ensures.depth (search rules)
