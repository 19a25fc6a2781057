use Rattle.std.proofs.Common.{◌≡◌, ℕ, ◌-◌, List, ◌∷◌, [], ◌++◌, reverse, take, get_or, subst, ap, ◌∙◌}
use Rattle.std.proofs.lemmas.List.{take_all}
use Rattle.sparse_graph.specs.Expand.{IsExpanded}
use Rattle.sparse_graph.proofs.Steps.{first_expanded, expanded_goes_on, edge_at, first_origin, expanded_path, front_at}
use Rattle.sparse_graph.proofs.expand.expand_path.Goals as goal

pub loop-place-init : goal.loop-place-init
loop-place-init c =
    let zero : c.origin.result ≡ 0 = c.origin.ensures.origin ∙ first_origin c.args.sparse.now c.origin.ensures.sparse in
    let whole : reverse c.push.new.self.items ≡ 0 ∷ [] =
    ap reverse c.in_ok-push.ensures.items
    ∙ (ap (λ (xs : List ℕ). reverse (xs ++ c.origin.result ∷ [])) c.new-whole.ensures.items
    ∙ ap (λ (k : ℕ). k ∷ []) zero) in
    first_expanded c.args.sparse.now c.origin.ensures.sparse c.args.path.now c.push.new.self.items c.requires whole

pub toward-next-requires : goal.toward-next-requires
toward-next-requires c =
    edge_at c.args.sparse.now c.origin.ensures.sparse c.args.path.now c.loop-place.place c.loop-place.auto.place
    c.loop-place-test.true c.requires

pub walk-requires : goal.walk-requires
walk-requires c =
    let front = front_at c.args.path.now c.loop-place.place c.loop-place.auto.place c.loop-place-test.true in
    expanded_path c.args.sparse.now (reverse (take c.loop-place.place c.args.path.now))
    (reverse c.loop-place.whole.items) (get_or c.args.path.now (c.loop-place.place - 1) 0) c.toward-next.result
    c.loop-place.invariant front c.toward-next.ensures.edge

pub loop-place-preserved : goal.loop-place-preserved
loop-place-preserved c =
    expanded_goes_on c.args.sparse.now c.origin.ensures.sparse c.args.path.now c.loop-place.whole.items
    c.walk.new.whole.items c.loop-place.place _ c.loop-place-test.true c.toward-next.ensures.lead
    c.loop-place.invariant c.in_ok-walk.ensures

pub returns : goal.returns
returns c =
    subst (λ (xs : List ℕ). IsExpanded c.args.sparse.now (reverse xs) (reverse c.loop-place.whole.items))
    (take_all c.loop-place.place c.args.path.now c.loop-place-test.false) c.loop-place.invariant
