use Rattle.std.proofs.Common.{◌≡◌, ◌<◌, ℕ, List, length, sym, ap, ◌∙◌, subst, arith}
use Rattle.std.proofs.lemmas.Result.{on_ok_weaker}
use Rattle.std.specs.Prelude.{OnOk}
use Rattle.transition_spec.specs.Path.{IsSuccessor}
use Rattle.path_model.specs.Graph.{IsGraph, graph_step}
use Rattle.focus_plain.specs.Cut.{cut, cut_after}
use Rattle.focus_plain.specs.Entries.{IsIndex, IsReachable, set_at, reached_set}
use Rattle.focus_plain.proofs.Links.{entry_read, index-read}
use Rattle.focus_plain.proofs.Spread.{node_inside, seen_small, value_from, first_stepped, AreStepped, both_stepped}
use Rattle.focus_plain.proofs.search.spread.Goals as goal
use Rattle.focus_plain.proofs.search.spread.Goals.{After-try_edge, After-try_edge-2}

pub fetch-requires : goal.fetch-requires
fetch-requires c = node_inside c.args.focus.now.view.now c.args.focus.now.start c.args.focus.now.block
    c.args.search.now c.requires.search c.args.index
    c.requires.inside c.index-entry.result.now c.index-entry.ensures

pub moved-reached-requires-clause-index : goal.moved-reached-requires-clause-index
moved-reached-requires-clause-index c =
    let entry = entry_read c.args.search.now.entries.items c.args.index c.index-entry.result.now c.requires.inside
    c.index-entry.ensures in
    subst (λ (s : List (List ℕ)). IsIndex s c.index-entry.result.now.younger) (sym c.deref.ensures.value)
    (index-read c.args.search.now c.args.index c.index-entry.result.now c.requires.search.linked c.requires.inside
    entry)

pub moved-reached-requires-clause-small : goal.moved-reached-requires-clause-small
moved-reached-requires-clause-small c =
    let P : List (List ℕ) → Type 0 = λ s. cut c.ways.result (set_at s c.index-entry.result.now.younger)
    ≡ set_at s c.index-entry.result.now.younger in
    let Q : ℕ → Type 0 = λ w. cut w (set_at c.args.search.now.sets.items c.index-entry.result.now.younger)
    ≡ set_at c.args.search.now.sets.items c.index-entry.result.now.younger in
    subst P (sym c.deref.ensures.value) (subst Q (sym c.ways.ensures.same)
    (seen_small c.args.focus.now.view.now c.args.focus.now.start c.args.focus.now.block c.args.search.now
    c.requires.search c.args.index c.requires.inside
    c.index-entry.result.now c.index-entry.ensures))

pub bounds-nodes-entry : goal.bounds-nodes-entry
bounds-nodes-entry c =
    let inside = node_inside c.args.focus.now.view.now c.args.focus.now.start c.args.focus.now.block c.args.search.now
    c.requires.search c.args.index
    c.requires.inside c.index-entry.result.now c.index-entry.ensures in
    omega (arith, inside, ap length (c.nodes.ensures.same ∙ c.graph.ensures.same))

-- what the answers about both edges share
module _ (c : After-try_edge) where
  -- the nodes are those of the view
  same_nodes : c.nodes.result.now ≡ c.args.focus.now.view.now.nodes
  same_nodes = c.nodes.ensures.same ∙ c.graph.ensures.same

  -- an edge leads to one of them
  ends : (n m : ℕ) → IsSuccessor (graph_step c.args.focus.now.view.now.nodes) n m
      → m < length c.args.focus.now.view.now.nodes
  ends n m edge =
      c.graph_laws.ensures.inside c.args.focus.now.view.now.nodes n m
      (subst IsGraph c.graph.ensures.same c.nodes.ensures.graph)
      edge

  -- what is reached has an index in the table
  reachable : IsReachable c.args.search.now.sets.items c.moved-reached.result
  reachable =
      subst (λ (s : List (List ℕ)). IsReachable s c.moved-reached.result) c.deref.ensures.value
      c.moved-reached.ensures.index

  -- it is what the entry's node leaves
  value : reached_set c.args.search.now.sets.items c.moved-reached.result
      ≡ cut_after c.args.focus.now.view.now c.args.focus.now.block c.index-entry.result.now.node
      (set_at c.args.search.now.sets.items c.index-entry.result.now.younger)
  value =
      value_from c.args.focus.now.view.now c.args.focus.now.block c.index-entry.result.now.node c.deref.result.now
      c.args.search.now.sets.items c.ways.result c.fetch.result c.index-entry.result.now.younger c.moved-reached.result
      c.deref.ensures.value c.ways.ensures.same c.fetch.ensures c.moved-reached.ensures.value

pub try_edge-requires-2-clause-linked : goal.try_edge-requires-2-clause-linked
try_edge-requires-2-clause-linked c =
    let known = (goal.at.try_edge-requires-2-clause-linked c).After-try_edge in
    (first_stepped c.args.focus.now.view.now c.args.focus.now.start c.args.focus.now.block c.args.search.now
    c.requires.search c.args.index c.requires.inside
    c.index-entry.result.now c.index-entry.ensures c.nodes.result.now (same_nodes known) _ (ends known)
    c.moved-reached.result (reachable known) (value known) c.try_edge.new.search c.in_ok-try_edge.ensures).search.linked

-- both edges are followed
both : (c : After-try_edge-2) → OnOk c.try_edge-2.result
    (AreStepped c.args.focus.now.view.now c.args.focus.now.start c.args.focus.now.block c.args.search.now
    c.try_edge-2.new.search c.args.index)
both c =
    let known = (goal.at.returns-clause-search c).After-try_edge in
    on_ok_weaker c.try_edge-2.result (λ second. both_stepped c.args.focus.now.view.now c.args.focus.now.start
    c.args.focus.now.block c.args.search.now
    c.requires.search c.args.index c.requires.inside c.index-entry.result.now c.index-entry.ensures c.nodes.result.now
    (same_nodes known) _ (ends known) c.moved-reached.result (reachable known) (value known) c.try_edge.new.search
    c.in_ok-try_edge.ensures c.try_edge-2.new.search second) c.try_edge-2.ensures

pub returns-clause-search : goal.returns-clause-search
returns-clause-search c = on_ok_weaker c.try_edge-2.result (λ stepped. stepped.search) (both c)

pub returns-clause-extends : goal.returns-clause-extends
returns-clause-extends c = on_ok_weaker c.try_edge-2.result (λ stepped. stepped.extends) (both c)

pub returns-clause-spread : goal.returns-clause-spread
returns-clause-spread c = on_ok_weaker c.try_edge-2.result (λ stepped. stepped.between) (both c)
