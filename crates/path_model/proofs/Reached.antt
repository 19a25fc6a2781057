-- Each node of a graph is reached.
use Rattle.std.proofs.Common.{ℕ, zero, suc, ◌<◌, List, [], ◌∷◌, length, refl, arith}
use Rattle.transition_spec.specs.Path.{IsPath, IsSuccessor}
use Rattle.path_model.specs.declared.graph.Node.{Node}
use Rattle.path_model.specs.Graph.{IsGraph, graph_step}
use Rattle.path_model.proofs.Edges.{node-from_successor, fit_at, below-from_fit}

-- a successor is the number of a node
pub successor_inside : (nodes : List Node) (n m : ℕ) → IsGraph nodes → IsSuccessor (graph_step nodes) n m
    → m < length nodes
successor_inside nodes n m graph leads =
    let named = node-from_successor nodes n m leads in
    below-from_fit (length nodes) m named.0 (fit_at nodes (length nodes) n named.0 graph.fit named.1) named.2

-- some path ends in each node below the bound
reached_below : (nodes : List Node) (bound n : ℕ) → IsGraph nodes → n < bound → n < length nodes
    → (earlier : List ℕ) × IsPath (graph_step nodes) 0 (n ∷ earlier)
reached_below nodes zero n graph small below = absurd (omega arith)
reached_below nodes (suc bound) zero graph small below = ([], refl)
reached_below nodes (suc bound) (suc n) graph small below =
    let before = graph.reached (suc n) (omega arith) below in
    let rest = reached_below nodes bound before.0 graph (omega (arith, before.1)) (omega (arith, before.1)) in
    (before.0 ∷ rest.0, (before.2, rest.1))

-- some path ends in each node
pub node_reached : (nodes : List Node) (n : ℕ) → IsGraph nodes → n < length nodes
    → (earlier : List ℕ) × IsPath (graph_step nodes) 0 (n ∷ earlier)
node_reached nodes n graph below = reached_below nodes (suc n) n graph (omega arith) below
