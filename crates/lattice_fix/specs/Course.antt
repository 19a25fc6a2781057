-- What holds while the solver works.
use Rattle.std.specs.Prelude.{◌≡◌, ℕ, ◌≤◌, Bool, true, false, List, [], ◌∷◌, ◌++◌, length, slice_set, map, Option, Some}
use Rattle.std.specs.Option.{option_map}
use Rattle.transition_spec.specs.Path.{IsSuccessor}
use Rattle.path_model.specs.declared.graph.Node.{Node}
use Rattle.path_model.specs.Graph.{IsGraph, graph_step}
use Rattle.lattice_fix.specs.declared.change.Change.{Change}
use Rattle.lattice_fix.specs.Framework.{Framework}
use Rattle.lattice_fix.specs.Waits.{IsDone}
use Rattle.lattice_fix.specs.Replay.{value_at, nothing, joined, Raises, Replays}

-- what the values stand for
abbrev pub data_of : {V D : Type 0} → (V → D) → List (Option V) → List (Option D)
data_of stands values = map (option_map stands) values

-- the nodes are a graph, the values are fit, node 0 has at least the start, and the changes replay to what the values
-- stand for
pub record IsCourse {V D : Type 0} (F : Framework D) (fits : V → Type 0) (stands : V → D) (nodes : List Node)
    (values : List (Option V)) (changes : List Change) (waiting : List Bool) : Type 0 where
  pub graph : IsGraph nodes
  pub one_each : length values ≡ length nodes
  pub one_flag_each : length waiting ≡ length nodes
  pub fit : (n : ℕ) (v : V) → value_at values n ≡ Some v → fits v
  pub begun : (x : D) × (value_at (data_of stands values) 0 ≡ Some x) × F.below F.start x
  pub replay : Replays F nodes (nothing nodes) changes (data_of stands values)

-- once the node has a value, the successor has at least the transfer of it
abbrev pub IsMet : {D : Type 0} → Framework D → List (Option D) → ℕ → ℕ → Type 0
IsMet {D} F held n m =
    (x : D) → value_at held n ≡ Some x → (y : D) × (value_at held m ≡ Some y) × F.below (F.transfer n x) y

-- the same, unless the node waits
abbrev pub IsClear : {D : Type 0} → Framework D → List (Option D) → List Bool → ℕ → ℕ → Type 0
IsClear F held waiting n m = IsDone waiting n → IsMet F held n m

-- each edge is clear
abbrev pub IsSettled : {D : Type 0} → Framework D → List Node → List (Option D) → List Bool → Type 0
IsSettled F nodes held waiting = (n m : ℕ) → IsSuccessor (graph_step nodes) n m → IsClear F held waiting n m

-- what came along an edge: a fit value, which stands for the transfer of what the node has
pub record IsMoved {V D : Type 0} (F : Framework D) (fits : V → Type 0) (stands : V → D)
    (values : List (Option V)) (from : ℕ) (moved : V) : Type 0 where
  pub fit : fits moved
  pub value : V
  pub held : value_at values from ≡ Some value
  pub same : stands moved ≡ F.transfer from (stands value)

-- a slot got what came: it stands for the join, and it was raised or stands for what it stood for
pub record IsReceived {V D : Type 0} (F : Framework D) (fits : V → Type 0) (stands : V → D)
    (before : Option V) (moved : V) (raised : Bool) (after : Option V) : Type 0 where
  pub value : V
  pub held : after ≡ Some value
  pub fit : fits value
  pub same : stands value ≡ joined F (option_map stands before) (stands moved)
  pub raises : raised ≡ true → Raises F (option_map stands before) (stands moved)
  pub keeps : raised ≡ false → option_map stands after ≡ option_map stands before

-- a raise is noted as a change, and the node then waits; else all stays
pub record IsNoted (raised : Bool) (from to : ℕ) (old : List Change) (waited : List Bool)
    (new : List Change) (waiting : List Bool) : Type 0 where
  pub raise : raised ≡ true →
      (new ≡ old ++ record { node = to; from = Some from } ∷ []) × (waiting ≡ slice_set waited to true)
  pub none : raised ≡ false → (new ≡ old) × (waiting ≡ waited)

-- the solver went on: what was clear stays clear, no change is lost, and with no new one no other node waits
pub record IsProgress {D : Type 0} (F : Framework D) (before : List (Option D)) (old : List Change) (waited : List Bool)
    (G : Framework D) (after : List (Option D)) (new : List Change) (waiting : List Bool) : Type 0 where
  pub keeps : (n m : ℕ) → IsClear F before waited n m → IsClear G after waiting n m
  pub longer : length old ≤ length new
  pub calm : length new ≡ length old → waiting ≡ waited
