use Rattle.std.proofs.Common.{◌≡◌, ◌≤◌, ◌<◌, ◌+◌, List, Option, sym, subst, arith}
use Rattle.std.specs.Prelude.{IfSome}
use Rattle.std.proofs.lemmas.Result.{IfOk-weaker}
use Rattle.cache_spec.specs.Blocks.{HaveFew}
use Rattle.cache_spec.specs.Geometry.{set_of}
use Rattle.path_model.specs.declared.graph.Node.{Node}
use Rattle.path_model.specs.Graph.{addresses_of}
use Rattle.sparse_graph.specs.Sparse.{Sparse, IsSparse, KeepsSets}
use Rattle.node_verdicts.specs.Judged.{AreJudged, IsEnds, IsFetcherOf}
use Rattle.node_verdicts.proofs.Lifted.{Laws, laws_of, ends_paths, block_whole, block_few}
use Rattle.node_verdicts.proofs.one_block.search_block.Goals as goal
use Rattle.node_verdicts.proofs.one_block.search_block.Goals.{In-Some}

-- what holds of the sparse graph
laws_here : (c : In-Some)
    → Laws c.in-Some.sparse c.args.geometry.now c.args.start c.set_of-set.result (c.set_of-set.result + 1)
laws_here c =
    let g = c.args.geometry.now in
    let set = c.set_of-set.result in
    laws_of c.in-Some.sparse g c.args.start set (set + 1)
    (subst (λ (o : Option Sparse). IfSome o IsSparse) c.in-Some.is c.in_ok-sparse.ensures.sparse)
    (subst (λ (o : Option Sparse). IfSome o (λ made. KeepsSets made g set (set + 1))) c.in-Some.is
    c.in_ok-sparse.ensures.keeps)

-- it is of the graph
nodes_here : (c : In-Some) → c.in-Some.sparse.nodes ≡ c.args.graph.now
nodes_here c =
    subst (λ (o : Option Sparse). IfSome o (λ made. made.nodes ≡ c.args.graph.now)) c.in-Some.is
    c.in_ok-sparse.ensures.nodes

-- and the set is that of the block
set_here : (c : In-Some) → (c.set_of-set.result ≤ set_of c.args.geometry.now c.args.block)
    × (set_of c.args.geometry.now c.args.block < c.set_of-set.result + 1)
set_here c = (omega (arith, c.set_of-set.ensures.value), omega (arith, c.set_of-set.ensures.value))

pub search_whole-requires : goal.search_whole-requires
search_whole-requires c =
    let known = (goal.at.search_whole-requires c).In-Some in
    let g = c.args.geometry.now in
    let set = c.set_of-set.result in
    subst (λ (ns : List Node). HaveFew (addresses_of ns) g (set_of g c.args.block)) (sym c.graph.ensures.same)
    (block_few c.in-Some.sparse g c.args.start set (set + 1) (laws_here known) c.args.graph.now c.args.block
    (nodes_here known) (set_here known).0 (set_here known).1 c.requires)

pub lift_all-requires : goal.lift_all-requires
lift_all-requires c one there =
    ends_paths c.in-Some.sparse.small c.args.geometry.now c.args.start one.node one.ends
    (subst (λ (ns : List Node). IsEnds ns c.args.geometry.now c.args.start one.node one.ends) c.graph.ensures.same
    (c.in_ok-judged-in-Some.ensures.right one there))

pub returns-in_ok-judged-in-Some : goal.returns-in_ok-judged-in-Some
returns-in_ok-judged-in-Some c =
    let known = (goal.at.returns-in_ok-judged-in-Some c).In-Some in
    let g = c.args.geometry.now in
    let set = c.set_of-set.result in
    let judged = c.in_ok-judged-in-Some.judged.items in
    IfOk-weaker c.lift_all.result _ _
    (λ lifted carried.
    block_whole c.in-Some.sparse g c.args.start set (set + 1) (laws_here known) c.args.graph.now c.args.block
    (nodes_here known) (set_here known).0 (set_here known).1 c.args.kept judged lifted.items
    (subst (λ (ns : List Node). AreJudged ns g c.args.start c.args.kept
    (IsFetcherOf ns g (λ other. other ≡ c.args.block)) judged) c.graph.ensures.same c.in_ok-judged-in-Some.ensures)
    carried)
    c.lift_all.ensures
