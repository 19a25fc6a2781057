use Rattle.std.proofs.Common.{◌≡◌, ℕ, List, [], ◌∷◌, ◌++◌, Vec, Global, replicate, ap, ◌∙◌, subst, arith}
use Rattle.std.proofs.lemmas.List.{map-append, replicate_more}
use Rattle.node_verdicts.specs.Open.{items_of, lists_seen}
use Rattle.node_verdicts.proofs.open_fetches.none_each.Goals as goal

pub loop-preserved : goal.loop-preserved
loop-preserved c =
    let before : List (Vec ℕ Global) = c.loop.lists.items in
    ap lists_seen c.in_ok-push.ensures.items ∙ (map-append items_of before (c.new.result ∷ [])
    ∙ (ap (λ (last : List ℕ). lists_seen before ++ last ∷ []) c.new.ensures.items
    ∙ (ap (λ (lists : List (List ℕ)). lists ++ [] ∷ []) c.loop.invariant ∙ replicate_more c.loop.counter [])))

pub returns : goal.returns
returns c =
    let all : c.loop.counter ≡ c.args.count = omega (arith, c.loop-test.false, c.loop.auto.counter-end) in
    subst (λ (count : ℕ). lists_seen c.loop.lists.items ≡ replicate count []) all c.loop.invariant
