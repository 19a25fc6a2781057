use Rattle.std.proofs.Common.{◌≡◌, ℕ, List, ◌∷◌, [], reverse, subst, sym, ap, ◌∙◌}
use Rattle.std.proofs.lemmas.List.{reverse-append}
use Rattle.sparse_graph.specs.Plan.{lead_of, origin_of, IsKept}
use Rattle.sparse_graph.specs.Expand.{IsOnWay}
use Rattle.sparse_graph.proofs.Steps.{last_inside, before_end, end_kept, way_more, way_done}
use Rattle.sparse_graph.proofs.expand.walk.Goals as goal

pub nearer-at-requires-clause-inside : goal.nearer-at-requires-clause-inside
nearer-at-requires-clause-inside c =
    last_inside c.args.sparse.now c.lead.ensures.sparse c.loop-at.at (reverse c.loop-at.whole.items)
    c.loop-at.invariant.is_path

pub nearer-at-requires-clause-dropped : goal.nearer-at-requires-clause-dropped
nearer-at-requires-clause-dropped c =
    let to : ℕ = lead_of c.args.sparse.now.leads c.args.next in
    let end : c.origin-end.result ≡ origin_of c.args.sparse.now.kept to =
    c.origin-end.ensures.origin ∙ ap (origin_of c.args.sparse.now.kept) c.lead.ensures.lead in
    before_end c.args.sparse.now c.lead.ensures.sparse to c.loop-at.at c.loop-at.invariant.lead
    (λ same. c.loop-at-test.true (same ∙ sym end))

pub loop-at-preserved : goal.loop-at-preserved
loop-at-preserved c =
    let to : ℕ = lead_of c.args.sparse.now.leads c.args.next in
    let before : List ℕ = reverse c.args.whole.now.items in
    let end : c.origin-end.result ≡ origin_of c.args.sparse.now.kept to =
    c.origin-end.ensures.origin ∙ ap (origin_of c.args.sparse.now.kept) c.lead.ensures.lead in
    let not : IsKept c.args.sparse.now.kept c.args.sparse.now.leads c.loop-at.at → ⊥ =
    before_end c.args.sparse.now c.lead.ensures.sparse to c.loop-at.at c.loop-at.invariant.lead
    (λ same. c.loop-at-test.true (same ∙ sym end)) in
    let pushed : reverse c.push.new.self.items ≡ c.loop-at.at ∷ reverse c.loop-at.whole.items =
    ap reverse c.in_ok-push.ensures.items ∙ reverse-append c.loop-at.whole.items (c.loop-at.at ∷ []) in
    subst (λ (members : List ℕ). IsOnWay c.args.sparse.now to before c.nearer-at.result members) (sym pushed)
    (way_more c.args.sparse.now c.lead.ensures.sparse to c.loop-at.at c.nearer-at.result before
    (reverse c.loop-at.whole.items) c.loop-at.invariant not c.nearer-at.ensures.edge c.nearer-at.ensures.lead)

pub returns : goal.returns
returns c =
    let sparse = c.args.sparse.now in
    let to : ℕ = lead_of sparse.leads c.args.next in
    let members : List ℕ = reverse c.loop-at.whole.items in
    let end : c.origin-end.result ≡ origin_of sparse.kept to =
    c.origin-end.ensures.origin ∙ ap (origin_of sparse.kept) c.lead.ensures.lead in
    let kept : IsKept sparse.kept sparse.leads c.loop-at.at =
    end_kept sparse c.lead.ensures.sparse to c.loop-at.at
    (last_inside sparse c.lead.ensures.sparse c.loop-at.at members c.loop-at.invariant.is_path)
    c.loop-at.invariant.lead (c.loop-at-test.false ∙ end) in
    let pushed : reverse c.push-2.new.self.items ≡ c.loop-at.at ∷ members =
    ap reverse c.in_ok-push-2.ensures.items ∙ reverse-append c.loop-at.whole.items (c.loop-at.at ∷ []) in
    way_done sparse c.lead.ensures.sparse to c.loop-at.at (reverse c.args.whole.now.items) members
    (reverse c.push-2.new.self.items) c.loop-at.invariant kept pushed
