use Rattle.std.proofs.Common.{◌≡◌, ◌∙◌, ap, subst, sym, List, length}
use Rattle.call_expand.specs.declared.point.Point.{Point}
use Rattle.call_expand.specs.declared.point.Edges.{Edges}
use Rattle.call_expand.specs.Numbers.{AreNodesFor}
use Rattle.call_expand.specs.Point.{AreExpanded, configurations_at}
use Rattle.call_expand.proofs.Finished.{some-from, same-at, edges_long, edges_among, is_accepted, is_graph, is_graph_of, are_expanded, are_texts, are_fit_points}
use Rattle.call_expand.proofs.search.finish.Goals as goal
use Rattle.call_expand.proofs.search.finish.Goals.{After-new, After-unwrap-graph}

-- there is a node for each point, with the edges of that
are_nodes : (c : After-new)
    → AreNodesFor c.args.search.known c.args.search.known c.args.search.edges.items c.in_ok-nodes.nodes.items
are_nodes c =
    let P : List Edges → Type 0 =
    λ es. AreNodesFor c.args.search.known c.args.search.known es c.in_ok-nodes.nodes.items in
    subst P c.deref.ensures.value c.in_ok-nodes.ensures

-- the graph has these nodes
same_nodes : (c : After-unwrap-graph) → c.unwrap-graph.result ≡ c.in_ok-nodes.nodes.items
same_nodes c =
    same-at c.new.result c.unwrap-graph.result c.in_ok-nodes.nodes.items c.unwrap-graph.ensures c.new.ensures.same

-- the configurations are those of the points
same_configurations : (c : goal.After-drop-edges-2)
    → c.new-2.result.configurations ≡ configurations_at c.args.search.stacks c.args.search.known
same_configurations c =
    c.new-2.ensures.configurations ∙ ap (configurations_at c.args.search.stacks) c.into_points-points.ensures.same

pub nodes_of-requires-clause-each : goal.nodes_of-requires-clause-each
nodes_of-requires-clause-each c = ap length c.deref.ensures.value ∙ edges_long c.requires

pub nodes_of-requires-clause-among : goal.nodes_of-requires-clause-among
nodes_of-requires-clause-among c = rw c.deref.ensures.value (edges_among c.requires)

pub nodes_of-requires-clause-fit : goal.nodes_of-requires-clause-fit
nodes_of-requires-clause-fit c = are_fit_points c.requires

pub unwrap-graph-requires : goal.unwrap-graph-requires
unwrap-graph-requires c =
    some-from c.new.result c.new.ensures.none
    (is_graph c.requires c.into_points-points.ensures.apart c.in_ok-nodes.nodes.items (are_nodes c))

pub new-requires-2 : goal.new-requires-2
new-requires-2 c =
    let P : List Point → Type 0 = λ ps. AreExpanded c.args.search.stacks ps c.unwrap-graph.result in
    let known = (goal.at.new-requires-2 c).After-new in
    subst P (sym c.into_points-points.ensures.same)
    (are_expanded c.requires c.into_points-points.ensures.apart c.in_ok-nodes.nodes.items (are_nodes known)
    c.unwrap-graph.result (same_nodes c))

pub returns-clause-accepted : goal.returns-clause-accepted
returns-clause-accepted c = is_accepted c.requires _ (same_configurations c)

pub returns-clause-graph : goal.returns-clause-graph
returns-clause-graph c =
    let known = (goal.at.returns-clause-graph c).After-new in
    is_graph_of c.requires c.into_points-points.ensures.apart c.in_ok-nodes.nodes.items (are_nodes known) _ _
    (same_configurations c)
    (c.new-2.ensures.nodes ∙ same_nodes (goal.at.returns-clause-graph c).After-unwrap-graph)

pub returns-clause-text : goal.returns-clause-text
returns-clause-text c = are_texts c.requires _ (same_configurations c)
