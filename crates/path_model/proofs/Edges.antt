-- The successors of a node, as its two numbers.
use Rattle.std.proofs.Common.{◌≡◌, ℕ, zero, suc, ◌<◌, ◌⊎◌, inl, inr, ⊎_elim, List, [], ◌∷◌, ◌++◌, Option, Some, None, refl, ap, sym, subst, arith, IsTrue}
use Rattle.std.specs.List.{Contains, list_all}
use Rattle.std.specs.Prelude.{slice_get}
use Rattle.std.specs.Result.{IsOkAnd}
use Rattle.std.specs.Option.{option_to_list}
use Rattle.std.proofs.lemmas.List.Elements.{Contains-append_left, Contains-append_right, Contains-append_cases}
use Rattle.std.proofs.lemmas.Grind.{common_steps}
use Rattle.std.proofs.lemmas.Bool.Decides.{nat_tests}
use Rattle.transition_spec.specs.Path.{IsSuccessor}
use Rattle.path_model.specs.declared.graph.Node.{Node}
use Rattle.path_model.specs.Graph.{successors, graph_step, is_fit, are_fit}

-- the node has that successor
abbrev pub LeadsTo : Node → ℕ → Type 0
LeadsTo node m = (node.first ≡ Some m) ⊎ (node.second ≡ Some m)

-- a number that is there is listed
Contains-one : (o : Option ℕ) (m : ℕ) → o ≡ Some m → Contains (option_to_list o) m
Contains-one o m same = subst (λ (o : Option ℕ). Contains (option_to_list o) m) (sym same) (0, omega arith, refl)

-- and is the only one
one-Contains : (o : Option ℕ) (m : ℕ) → Contains (option_to_list o) m → o ≡ Some m
one-Contains None m (k, below, same) = absurd (omega arith)
one-Contains (Some x) m (zero, below, same) = ap Some same
one-Contains (Some x) m (suc k, below, same) = absurd (omega arith)

-- a successor that the node has is listed
listed : (node : Node) (m : ℕ) → LeadsTo node m → Contains (option_to_list node.first ++ option_to_list node.second) m
listed node m leads = ⊎_elim
    (λ (same : node.first ≡ Some m). Contains-append_left (option_to_list node.first) (option_to_list node.second) m
    (Contains-one node.first m same))
    (λ (same : node.second ≡ Some m). Contains-append_right (option_to_list node.first) (option_to_list node.second) m
    (Contains-one node.second m same))
    leads

-- a successor that the node names is one
pub successor-from_node : (nodes : List Node) (n m : ℕ) (node : Node) → slice_get nodes n ≡ Some node → LeadsTo node m
    → IsSuccessor (graph_step nodes) n m
successor-from_node nodes n m node found leads =
    subst (λ (o : Option Node). IsOkAnd (successors o) (λ s. Contains s m)) (sym found) (listed node m leads)

-- a listed one is a successor that the node has
leads_of : (node : Node) (m : ℕ) → Contains (option_to_list node.first ++ option_to_list node.second) m → LeadsTo node m
leads_of node m inside = ⊎_elim
    (λ (first : Contains (option_to_list node.first) m). inl (one-Contains node.first m first))
    (λ (second : Contains (option_to_list node.second) m). inr (one-Contains node.second m second))
    (Contains-append_cases (option_to_list node.first) (option_to_list node.second) m inside)

-- the same, from the answer of the step
node_of : (o : Option Node) (m : ℕ) → IsOkAnd (successors o) (λ s. Contains s m)
    → (node : Node) × (o ≡ Some node) × LeadsTo node m
node_of None m none = absurd none
node_of (Some node) m inside = (node, refl, leads_of node m inside)

-- a successor is one that the node names
pub node-from_successor : (nodes : List Node) (n m : ℕ) → IsSuccessor (graph_step nodes) n m
    → (node : Node) × (slice_get nodes n ≡ Some node) × LeadsTo node m
node-from_successor nodes n m inside = node_of (slice_get nodes n) m inside

-- the same of a node that is known
pub leads-from_successor : (nodes : List Node) (n m : ℕ) (node : Node) → slice_get nodes n ≡ Some node
    → IsSuccessor (graph_step nodes) n m → LeadsTo node m
leads-from_successor nodes n m node found inside =
    leads_of node m (subst (λ (o : Option Node). IsOkAnd (successors o) (λ s. Contains s m)) found inside)

-- where all nodes are fit, each is
pub fit_at : (nodes : List Node) (count n : ℕ) (node : Node) → IsTrue (list_all (is_fit count) nodes)
    → slice_get nodes n ≡ Some node → IsTrue (is_fit count node)
fit_at [] count n node fit found = absurd (cc)
fit_at (first ∷ nodes) count zero node fit found = grind (arith, common_steps)
fit_at (first ∷ nodes) count (suc n) node fit found = fit_at nodes count n node (grind (arith, common_steps)) found

-- a fit first successor is below the count
first_below : (count m : ℕ) (first second : Option ℕ) → IsTrue (are_fit count first second) → first ≡ Some m → m < count
first_below count m None second fit same = absurd (cc)
first_below count m (Some x) None fit same = grind (arith, nat_tests)
first_below count m (Some x) (Some y) fit same = grind (arith, nat_tests)

-- a fit second successor is below the count
second_below : (count m : ℕ) (first second : Option ℕ) → IsTrue (are_fit count first second) → second ≡ Some m
    → m < count
second_below count m None None fit same = absurd (cc)
second_below count m (Some x) None fit same = absurd (cc)
second_below count m None (Some y) fit same = absurd (cc)
second_below count m (Some x) (Some y) fit same = grind (arith, nat_tests)

-- a fit node's successors are below the count
pub below-from_fit : (count m : ℕ) (node : Node) → IsTrue (is_fit count node) → LeadsTo node m → m < count
below-from_fit count m node fit leads = ⊎_elim
    (λ (same : node.first ≡ Some m). first_below count m node.first node.second fit same)
    (λ (same : node.second ≡ Some m). second_below count m node.first node.second fit same)
    leads
