use Rattle.std.proofs.Common.{◌≡◌, ℕ, List, get_or, ◌∙◌, subst, refl, arith}
use Rattle.std.proofs.lemmas.List.{get_or_default}
use Rattle.std.proofs.lemmas.List.Elements.{Contains-get_or}
use Rattle.age_exists.proofs.first_bounds.are_all.Goals as goal

pub bounds-bounds-node : goal.bounds-bounds-node
bounds-bounds-node c =
    c.requires (get_or c.args.nodes.now c.loop-node.node-index 0)
    (Contains-get_or c.args.nodes.now c.loop-node.node-index 0 c.loop-node-test.true)

pub returns : goal.returns
returns c = (
  λ all n has.
      let bounds : List ℕ = c.args.bounds.now in
      let nodes : List ℕ = c.args.nodes.now in
      let there : get_or nodes has.0 0 ≡ n = get_or_default nodes has.0 0 n has.1 ∙ has.2 in
      subst (λ (k : ℕ). get_or bounds k 0 ≡ c.args.bound) there
      (c.loop-node.invariant has.0 (omega (arith, has.1, c.loop-node-test.false))),
  λ each. refl,
)
