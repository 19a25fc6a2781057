use Rattle.std.proofs.Common.{arith, ap, length, map, subst, List, ◌∙◌}
use Rattle.path_model.specs.declared.graph.Node.{Node}
use Rattle.path_model.specs.Graph.{addresses_of}
use Rattle.cache_spec.specs.Blocks.{AreBlocks}
use Rattle.set_view.specs.Places.{local_at}
use Rattle.set_view.proofs.Locals.{view-made}
use Rattle.set_view.proofs.fetched.view.Goals as goal

pub overflow_cast-result : goal.overflow_cast-result
overflow_cast-result c =
    omega (
      arith,
      c.in_ok-blocks.ensures.few,
      c.len-then-len-gt-BLOCK_LIMIT.ensures,
      ap length c.nodes.ensures.same,
      c.nodes.ensures.graph.few,
    )

pub invariant_of-result : goal.invariant_of-result
invariant_of-result c =
    let g = c.args.geometry.now in
    let blocks = c.in_ok-blocks.blocks.items in
    let P : List Node → Type 0 = λ nodes. AreBlocks (addresses_of nodes) g c.args.set blocks in
    let fetched = subst P c.nodes.ensures.same c.in_ok-blocks.ensures.fetched in
    view-made c.args.graph.now g c.args.set blocks c.in_ok-fetches.fetches.items c.nodes.ensures.graph
    (omega (arith, c.ways-ways.ensures.value, c.ways-ways.ensures.least))
    (omega (arith, c.ways-ways.ensures.value, c.ways-ways.ensures.most)) fetched
    (omega (arith, c.len.ensures, c.if-len-gt-BLOCK_LIMIT.false, c.in_ok-blocks.blocks.ok))
    (c.in_ok-fetches.ensures ∙ ap (λ xs. map (local_at xs g c.args.set) c.nodes-2.result.now) c.deref.ensures.value ∙ ap
    (map (local_at blocks g c.args.set)) c.nodes-2.ensures.same)

pub returns-clause-view : goal.returns-clause-view
returns-clause-view c = invariant_of-result c
