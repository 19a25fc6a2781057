use Rattle.std.proofs.Common.{◌≡◌, ℕ, List, Some, reverse, ap, sym, ◌∙◌, subst}
use Rattle.std.proofs.lemmas.List.{reverse-reverse}
use Rattle.path_trail.specs.Trail.{IsChain}
use Rattle.path_trail.proofs.Chains.{IsPath-chain, prefix_all}
use Rattle.path_trail.proofs.trail.trace.Goals as goal

-- the members, turned round twice, are the chain
chain : goal.returns-clause-chain
chain g c =
    let twice : reverse c.reverse.new.self.items ≡ c.loop-next.path.items =
    ap reverse c.reverse.ensures.items ∙ reverse-reverse c.loop-next.path.items in
    subst (λ (members : List ℕ). IsChain (g.T.Trail.entries c.args.trail.now) (Some c.args.entry) members) (sym twice)
    (prefix_all _ _ _ _ c.loop-next.invariant c.in_default.is)

pub returns-clause-chain : goal.returns-clause-chain
returns-clause-chain g c = chain g c

pub returns-clause-path : goal.returns-clause-path
returns-clause-path g c = IsPath-chain _ _ _ _ c.requires.trail c.requires.inside (chain g c)
