-- The edges of a graph lead from nodes to nodes.
use Rattle.std.proofs.Common.{◌≡◌, ◌≢◌, ℕ, ◌<◌, Bool, List, length, Option, Some, None, IsTrue, sym, ◌∙◌, refl, subst, arith, ⊎_elim}
use Rattle.std.specs.Prelude.{slice_get}
use Rattle.std.proofs.lemmas.Bool.{cases_eq}
use Rattle.std.proofs.lemmas.Option.{slice_get_within, none-some}
use Rattle.transition_spec.specs.Path.{IsSuccessor}
use Rattle.path_model.specs.declared.graph.Node.{Node}
use Rattle.path_model.specs.Graph.{IsGraph, graph_step, are_fit}
use Rattle.lattice_fix.specs.Framework.{Framework}
use Rattle.lattice_fix.specs.declared.change.Change.{Change}
use Rattle.lattice_fix.specs.Course.{IsCourse, IsClear, IsSettled}
use Rattle.path_model.proofs.Reached.{successor_inside}
use Rattle.path_model.proofs.Edges.{node-from_successor, leads-from_successor, LeadsTo, fit_at}

-- both ends of an edge are numbers of nodes
pub edge_inside : (nodes : List Node) → IsGraph nodes → (n m : ℕ) → IsSuccessor (graph_step nodes) n m →
    (n < length nodes) × (m < length nodes)
edge_inside nodes graph n m leads = let named = node-from_successor nodes n m leads in
    (slice_get_within nodes n named.0 named.1, successor_inside nodes n m graph leads)

-- each of the two nodes has a slot, and the second has a flag
pub record HaveSlots {V : Type 0} (values : List (Option V)) (waiting : List Bool) (n m : ℕ) : Type 0 where
  pub from : n < length values
  pub to : m < length values
  pub flag : m < length waiting

-- while the solver works, the ends of an edge have slots, and the second a flag
pub have_slots : {V D : Type 0} {F : Framework D} {fits : V → Type 0} {stands : V → D} {nodes : List Node}
    {values : List (Option V)} {changes : List Change} {waiting : List Bool} →
    IsCourse F fits stands nodes values changes waiting → (n m : ℕ) → IsSuccessor (graph_step nodes) n m →
    HaveSlots values waiting n m
have_slots {nodes = nodes} course n m edge = let ends = edge_inside nodes course.graph n m edge in record {
  from = omega (arith, ends.0, course.one_each);
  to = omega (arith, ends.1, course.one_each);
  flag = omega (arith, ends.1, course.one_flag_each);
}

-- a second successor comes only after a first
second_none : (count : ℕ) (first second : Option ℕ) → IsTrue (are_fit count first second) → first ≡ None → second ≡ None
second_none count None None fit none = refl
second_none count None (Some second) fit none = absurd (cc)
second_none count (Some first) second fit none = absurd (none-some first (sym none))

-- where the first successor is absent the node leads nowhere
pub leads_nowhere : (nodes : List Node) → IsGraph nodes → (n m : ℕ) (here : Node) → slice_get nodes n ≡ Some here →
    here.first ≡ None → LeadsTo here m → ⊥
leads_nowhere nodes graph n m here found none leads = ⊎_elim
    (λ (first : here.first ≡ Some m). none-some m (sym none ∙ first))
    (λ (second : here.second ≡ Some m).
    let fit = fit_at nodes (length nodes) n here graph.fit found in
    none-some m (sym (second_none (length nodes) here.first here.second fit none) ∙ second))
    leads

-- where the edges of a node and those of each other node are clear, all are
pub settled_at : {D : Type 0} (F : Framework D) (nodes : List Node) (held : List (Option D)) (waiting : List Bool)
    (node : ℕ) (here : Node) → slice_get nodes node ≡ Some here →
    ((n m : ℕ) → n ≢ node → IsSuccessor (graph_step nodes) n m → IsClear F held waiting n m) →
    ((m : ℕ) → LeadsTo here m → IsClear F held waiting node m) → IsSettled F nodes held waiting
settled_at F nodes held waiting node here found others mine = λ n m leads. ⊎_elim
    (λ (same : n ≡ node). subst (λ (k : ℕ). IsClear F held waiting k m) (sym same)
    (mine m (leads-from_successor nodes node m here found
    (subst (λ (k : ℕ). IsSuccessor (graph_step nodes) k m) same leads))))
    (λ (other : n ≢ node). others n m other leads)
    (cases_eq n node)
