use Rattle.std.proofs.Common.{◌≡◌, ◌≤◌, ◌<◌, ◌+◌, List, sym, subst, arith}
use Rattle.std.proofs.lemmas.List.Elements.{All-contains}
use Rattle.std.proofs.lemmas.Result.{IfOk-weaker}
use Rattle.cache_spec.specs.Blocks.{HaveFew}
use Rattle.cache_spec.specs.Geometry.{set_of}
use Rattle.path_model.specs.declared.graph.Node.{Node}
use Rattle.path_model.specs.Graph.{addresses_of}
use Rattle.node_verdicts.specs.Judged.{AreJudged, IsEnds, IsFetcherOf}
use Rattle.node_verdicts.specs.Ranges.{IsSpanGraph}
use Rattle.node_verdicts.proofs.Lifted.{Laws, laws_of, ends_paths, block_whole, block_few}
use Rattle.node_verdicts.proofs.block_jobs.search_on.Goals as goal
use Rattle.node_verdicts.proofs.block_jobs.search_on.Goals.{In-Some}

-- the smaller graph is one of the graph
is_smaller : (c : In-Some) → IsSpanGraph c.args.graph.now c.args.geometry.now c.in-Some.smaller.now
is_smaller c =
    All-contains (IsSpanGraph c.args.graph.now c.args.geometry.now) c.args.graphs.now c.in-Some.smaller.now
    c.requires.graphs c.in-Some.ensures.0

-- what holds of it
laws_here : (c : In-Some) → Laws c.in-Some.smaller.now.sparse c.args.geometry.now c.args.start
    c.in-Some.smaller.now.span.first (c.in-Some.smaller.now.span.last + 1)
laws_here c =
    laws_of c.in-Some.smaller.now.sparse c.args.geometry.now c.args.start c.in-Some.smaller.now.span.first
    (c.in-Some.smaller.now.span.last + 1) (is_smaller c).is_sparse (is_smaller c).keeps

-- the set of the block is one of its span
set_here : (c : In-Some) → (c.in-Some.smaller.now.span.first ≤ set_of c.args.geometry.now c.args.block)
    × (set_of c.args.geometry.now c.args.block < c.in-Some.smaller.now.span.last + 1)
set_here c = (
  omega (arith, c.in-Some.ensures.1, c.set_of.ensures.value),
  omega (arith, c.in-Some.ensures.2, c.set_of.ensures.value),
)

-- few blocks of the set are fetched
few_here : (c : In-Some) → HaveFew (addresses_of c.args.graph.now) c.args.geometry.now
    (set_of c.args.geometry.now c.args.block)
few_here c =
    c.requires.few (set_of c.args.geometry.now c.args.block) (omega arith)
    (omega (arith, c.set_of.ensures.value, c.set_of.ensures.below))

pub search_block-requires : goal.search_block-requires
search_block-requires c =
    let known = (goal.at.search_block-requires c).In-Some in
    let g = c.args.geometry.now in
    let span = c.in-Some.smaller.now.span in
    subst (λ (ns : List Node). HaveFew (addresses_of ns) g (set_of g c.args.block)) (sym c.graph.ensures.same)
    (block_few c.in-Some.smaller.now.sparse g c.args.start span.first (span.last + 1) (laws_here known) c.args.graph.now
    c.args.block (is_smaller known).nodes_are (set_here known).0 (set_here known).1 (few_here known))

pub lift_all-requires : goal.lift_all-requires
lift_all-requires c one there =
    ends_paths c.in-Some.smaller.now.sparse.small c.args.geometry.now c.args.start one.node one.ends
    (subst (λ (ns : List Node). IsEnds ns c.args.geometry.now c.args.start one.node one.ends) c.graph.ensures.same
    (c.in_ok-judged-in-Some.ensures.right one there))

pub returns-in_ok-judged-in-Some : goal.returns-in_ok-judged-in-Some
returns-in_ok-judged-in-Some c =
    let known = (goal.at.returns-in_ok-judged-in-Some c).In-Some in
    let g = c.args.geometry.now in
    let span = c.in-Some.smaller.now.span in
    let judged = c.in_ok-judged-in-Some.judged.items in
    IfOk-weaker c.lift_all.result _ _
    (λ lifted carried.
    block_whole c.in-Some.smaller.now.sparse g c.args.start span.first (span.last + 1) (laws_here known)
    c.args.graph.now c.args.block (is_smaller known).nodes_are (set_here known).0 (set_here known).1 c.args.kept judged
    lifted.items
    (subst (λ (ns : List Node). AreJudged ns g c.args.start c.args.kept
    (IsFetcherOf ns g (λ other. other ≡ c.args.block)) judged) c.graph.ensures.same c.in_ok-judged-in-Some.ensures)
    carried)
    c.lift_all.ensures
