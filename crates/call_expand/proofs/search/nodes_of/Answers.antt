use Rattle.std.proofs.Common.{suc, List, sym, subst, take, get_or, arith, add-one, ℕ, ◌^◌, ◌<◌, length}
use Rattle.path_model.specs.declared.graph.Node.{Node}
use Rattle.call_expand.specs.Numbers.{AreNodesFor, IsNodeFor}
use Rattle.call_expand.specs.declared.point.Point.{Point}
use Rattle.call_expand.specs.Point.{fetched_by}
use Rattle.call_expand.proofs.Edges.{none}
use Rattle.call_expand.proofs.Zipped.{all-at}
use Rattle.call_expand.proofs.Ordered.{point}
use Rattle.call_expand.proofs.Numbered.{among-at, nodes-more}
use Rattle.call_expand.proofs.search.nodes_of.Goals as goal

pub node_of-requires : goal.node_of-requires
node_of-requires c = record {
  among = among-at c.args.known.now c.args.edges.now c.loop-index.index none c.requires.among c.loop-index-test.true;
  fits =
      let all = c.args.known.now in
      let i = c.loop-index.index in
      let P : List Point → Type 0 = λ ps. fetched_by (get_or ps i (point 0 0)) < 2 ^ 32 in
      subst P (sym c.points-points.ensures)
      (all-at (λ p. fetched_by p < 2 ^ 32) all i (point 0 0) c.requires.fit
      (omega (arith, c.requires.each, c.loop-index-test.true)));
}

pub loop-index-preserved : goal.loop-index-preserved
loop-index-preserved c =
    let all = c.args.known.now in
    let edges = c.args.edges.now in
    let i = c.loop-index.index in
    let below : i < length all = omega (arith, c.requires.each, c.loop-index-test.true) in
    let P : List Point → Type 0 =
    λ ps. IsNodeFor all (get_or ps i (point 0 0)) (get_or edges i none) c.node_of.result in
    let Q : ℕ → Type 0 = λ j. AreNodesFor all (take j all) (take j edges) c.push.new.self.items in
    let R : List Node → Type 0 = λ nodes. AreNodesFor all (take (suc i) all) (take (suc i) edges) nodes in
    subst Q (sym (add-one i))
    (subst R (sym c.in_ok-push.ensures.items)
    (nodes-more all all edges c.loop-index.nodes.items i (point 0 0) none c.node_of.result below c.loop-index-test.true
    c.loop-index.invariant (subst P c.points-points.ensures c.node_of.ensures)))
