use Rattle.std.proofs.Common.{◌≡◌, ◌∙◌, ap, inl, inr, ⊎_elim, length, arith}
use Rattle.std.proofs.lemmas.Result.{err_from_is_err_and}
use Rattle.flow_spec.specs.declared.fault.FlowFault.TheVariants.{OutOfMemory}
use Rattle.call_expand.proofs.Further.{few-points, refused_here, all-edges, layer_passes_limit, layer_next}
use Rattle.call_expand.proofs.search.next_layer.Goals as goal

-- there are edges for each point so far
edges_long : (c : goal.After-number_from-arg-1) → length c.deref.result.now ≡ length c.args.search.now.known
edges_long c =
    ap length c.deref.ensures.value ∙ all-edges c.requires.at c.points.ensures c.in_ok-follow_from.ensures.followed

pub returns-in_err-follow_from-clause-refused : goal.returns-in_err-follow_from-clause-refused
returns-in_err-follow_from-clause-refused c =
    let (_, is, same) = err_from_is_err_and c.from_residual.result c.from_residual.ensures.1 in
    let fault = c.in_err-follow_from.field-0.0 in
    rw (is, same)
    (⊎_elim (λ (memory : fault ≡ OutOfMemory). inl memory)
    (λ fails. inr (refused_here c.requires.at c.points.ensures fault fails)) c.in_err-follow_from.ensures.fault)

pub number_from-requires-clause-within : goal.number_from-requires-clause-within
number_from-requires-clause-within c = omega (arith, edges_long c, c.requires.at.within)

pub number_from-requires-clause-room : goal.number_from-requires-clause-room
number_from-requires-clause-room c = omega (arith, edges_long c, few-points c.requires.at)

pub returns-then-points-clause-refused : goal.returns-then-points-clause-refused
returns-then-points-clause-refused c =
    inr (layer_passes_limit c.requires.at c.points.ensures c.in_ok-follow_from.ensures.followed c.deref.ensures.value
    c.in_ok-number_from.ensures.cells c.in_ok-number_from.ensures.numbered
    (omega (arith, ap length c.points-2.ensures, c.if-points.true)))

pub returns-clause-at : goal.returns-clause-at
returns-clause-at c =
    layer_next c.requires.at c.points.ensures c.in_ok-follow_from.ensures.followed c.deref.ensures.value
    c.in_ok-number_from.ensures.cells c.in_ok-number_from.ensures.numbered
    (omega (arith, ap length c.points-2.ensures, c.if-points.false))
