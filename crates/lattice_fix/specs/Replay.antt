-- How recorded changes are made again, one after another, over what each node has, if it has anything yet.
use Rattle.std.specs.Prelude.{◌≡◌, ◌≢◌, ℕ, ◌<◌, List, [], ◌∷◌, length, replicate, slice_index_or, slice_set, Option, Some, None}
use Rattle.transition_spec.specs.Path.{IsSuccessor}
use Rattle.path_model.specs.declared.graph.Node.{Node}
use Rattle.path_model.specs.Graph.{graph_step}
use Rattle.lattice_fix.specs.declared.change.Change.{Change}
use Rattle.lattice_fix.specs.Framework.{Framework}

-- what a node has, if anything
abbrev pub value_at : {D : Type 0} → List (Option D) → ℕ → Option D
value_at held n = slice_index_or held n None

-- no node has anything
abbrev pub nothing : {D : Type 0} → List Node → List (Option D)
nothing nodes = replicate (length nodes) None

-- what a change brings to a node: the start at node 0, or at a successor the transfer of what the node before has
abbrev pub Brings : {D : Type 0} → Framework D → List Node → List (Option D) → ℕ → Option ℕ → D → Type 0
Brings F nodes held node None x = (node ≡ 0) × (x ≡ F.start)
Brings F nodes held node (Some from) x =
    IsSuccessor (graph_step nodes) from node × ((y : _) × (value_at held from ≡ Some y) × (x ≡ F.transfer from y))

-- what a node has once something is joined into what it had
abbrev pub joined : {D : Type 0} → Framework D → Option D → D → D
joined F None x = x
joined F (Some y) x = F.join y x

-- it is the first that the node has, or it strictly raises what the node had
abbrev pub Raises : {D : Type 0} → Framework D → Option D → D → Type 0
Raises F None x = Unit {0}
Raises F (Some y) x = F.join y x ≢ y

-- one change leads from what the nodes had to what they have then
pub record IsStep {D : Type 0} (F : Framework D) (nodes : List Node) (before : List (Option D)) (change : Change)
    (after : List (Option D)) : Type 0 where
  pub brought : D
  pub inside : change.node < length before
  pub brings : Brings F nodes before change.node change.from brought
  pub raises : Raises F (value_at before change.node) brought
  pub leaves : after ≡ slice_set before change.node (Some (joined F (value_at before change.node) brought))

-- the changes, made in order, lead from what the nodes had to what they have at the end
abbrev pub Replays : {D : Type 0} → Framework D → List Node → List (Option D) → List Change → List (Option D) → Type 0
Replays F nodes before [] after = after ≡ before
Replays {D} F nodes before (change ∷ changes) after =
    (between : List (Option D)) × IsStep F nodes before change between × Replays F nodes between changes after
