-- Each entry of a trail has a chain, which is a path.
use Rattle.std.proofs.Common.{ℕ, zero, suc, ◌<◌, ◌≤◌, List, [], ◌∷◌, length, Option, Some, None, refl, arith}
use Rattle.transition_spec.specs.Path.{IsPath}
use Rattle.path_model.specs.declared.graph.Node.{Node}
use Rattle.path_model.specs.Graph.{graph_step}
use Rattle.path_trail.specs.Trail.{TrailEntry, node_at, earlier_at, IsChain, LeadsOn, IsTrail}
use Rattle.path_trail.proofs.Chains.{IsPath-chain}

module _ (nodes : List Node) (entries : List TrailEntry) (trail : IsTrail nodes entries) where
  -- what stands before a node that is led to has a chain, since its numbers go down
  chain-before : (bound number : ℕ) (before : Option ℕ) (node : ℕ) → number ≤ bound → number ≤ length entries
      → LeadsOn nodes entries number before node → (members : List ℕ) × IsChain entries before members
  chain-before bound number None node under inside leads = ([], tt)
  chain-before zero number (Some k) node under inside leads = absurd (omega (arith, under, leads.0))
  chain-before (suc bound) number (Some k) node under inside leads =
      let there : k < length entries = omega (arith, inside, leads.0) in
      let rest = chain-before bound k (earlier_at entries k) (node_at entries k) (omega (arith, under, leads.0))
      (omega (arith, there)) (trail k there) in
      (node_at entries k ∷ rest.0, (refl, rest.1))

  -- and so has an entry: its chain is a path to its node
  pub entry_chained : (number : ℕ) → number < length entries
      → (members : List ℕ) × IsChain entries (Some number) members × IsPath (graph_step nodes) 0 members
  entry_chained number inside =
      let rest = chain-before number number (earlier_at entries number) (node_at entries number) (omega arith)
      (omega (arith, inside)) (trail number inside) in
      let members : List ℕ = node_at entries number ∷ rest.0 in
      let chain : IsChain entries (Some number) members = (refl, rest.1) in
      (members, chain, IsPath-chain nodes entries number members trail inside chain)
