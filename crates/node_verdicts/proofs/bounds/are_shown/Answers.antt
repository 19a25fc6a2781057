use Rattle.std.proofs.Common.{ℕ, inl, inr, get_or, sym, subst, arith}
use Rattle.std.proofs.lemmas.Bool.{cases_eq}
use Rattle.std.proofs.lemmas.List.Elements.{Contains-get_or}
use Rattle.node_verdicts.specs.Witnesses.{IsShownAt}
use Rattle.node_verdicts.proofs.Listed.{placed}
use Rattle.node_verdicts.proofs.bounds.are_shown.Goals as goal

pub is_shown-requires-clause-inside : goal.is_shown-requires-clause-inside
is_shown-requires-clause-inside c =
    (c.requires.fetches (get_or c.args.nodes.now c.loop-node.node-index 0)
    (Contains-get_or c.args.nodes.now c.loop-node.node-index 0 c.loop-node-test.true)).0

pub loop-node-preserved : goal.loop-node-preserved
loop-node-preserved c = λ k below. elim (cases_eq k c.loop-node.node-index) [
  | inl here ↦
      let node = get_or c.args.nodes.now c.loop-node.node-index 0 in
      subst (λ (i : ℕ). IsShownAt c.args.bounds.now (get_or c.args.nodes.now i 0)) (sym here) (record {
        fetches = (c.requires.fetches node
            (Contains-get_or c.args.nodes.now c.loop-node.node-index 0 c.loop-node-test.true)).1;
        shown = c.is_shown.ensures.shown.0 c.if-not-is_shown.false;
        some = c.is_shown.ensures.some c.if-not-is_shown.false;
      })
  | inr before ↦ c.loop-node.invariant k (omega (arith, below, before))
]

pub returns-clause-all : goal.returns-clause-all
returns-clause-all c = λ _ n there.
    let (k, inside, at) = placed c.args.nodes.now n there in
    subst (IsShownAt c.args.bounds.now) at (c.loop-node.invariant k (omega (arith, inside, c.loop-node-test.false)))
