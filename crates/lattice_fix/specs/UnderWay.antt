-- What holds of the solver's work, as the domain then sees it.
use Rattle.std.specs.Prelude.{◌≡◌, ◌≢◌, ℕ, Bool, List, Option, Some, Result, IfErr}
use Rattle.transition_spec.specs.Path.{IsSuccessor}
use Rattle.path_model.specs.declared.graph.Node.{Node}
use Rattle.path_model.specs.Graph.{graph_step}
use Rattle.lattice_fix.specs.declared.change.SolveFault.{SolveFault}
use Rattle.lattice_fix.specs.declared.domain.Domain.{Ghosts}
use Rattle.lattice_fix.specs.declared.solver.Work.{Work}
use Rattle.lattice_fix.specs.Framework.{Framework}
use Rattle.lattice_fix.specs.Replay.{value_at}
use Rattle.lattice_fix.specs.Solved.{IsCause}
use Rattle.lattice_fix.specs.Course.{IsCourse, IsClear, IsMoved, IsProgress, IsReceived, IsSettled, data_of}

module _ {Self V S : Type 0} (g : Ghosts Self V S) where
  -- the framework that the domain gives
  abbrev pub framework_of : Self → Framework g.Data
  framework_of domain = g.framework (g.setting (g.state domain))

  -- which values are fit
  abbrev pub fits_in : Self → V → Type 0
  fits_in domain = g.fits (g.state domain)

  -- what a value stands for
  abbrev pub data_in : Self → V → g.Data
  data_in domain = g.stands (g.state domain)

  -- what the values of the work stand for
  abbrev pub held_in : Self → Work V → List (Option g.Data)
  held_in domain work = data_of (data_in domain) work.values.items

  -- the solver works on these nodes, and its changes replay to what its values stand for
  abbrev pub IsUnderWay : List Node → Self → Work V → Type 0
  IsUnderWay nodes domain work = IsCourse (framework_of domain) (fits_in domain) (data_in domain) nodes
      work.values.items work.changes.items work.waiting

  -- the edge is clear
  abbrev pub IsClearAt : Self → Work V → ℕ → ℕ → Type 0
  IsClearAt domain work from to = IsClear (framework_of domain) (held_in domain work) work.waiting from to

  -- each edge is clear
  abbrev pub AllAreClear : List Node → Self → Work V → Type 0
  AllAreClear nodes domain work = IsSettled (framework_of domain) nodes (held_in domain work) work.waiting

  -- each edge from another node is clear
  abbrev pub OthersAreClear : List Node → Self → Work V → ℕ → Type 0
  OthersAreClear nodes domain work node =
      (n m : ℕ) → n ≢ node → IsSuccessor (graph_step nodes) n m → IsClearAt domain work n m

  -- the value stands for the transfer of what the node has
  abbrev pub IsMovedFrom : Self → Work V → ℕ → V → Type 0
  IsMovedFrom domain work from moved =
      IsMoved (framework_of domain) (fits_in domain) (data_in domain) work.values.items from moved

  -- the value that came was joined into the slot, or put there
  abbrev pub Receives : Self → Option V → V → Bool → Option V → Type 0
  Receives domain = IsReceived (framework_of domain) (fits_in domain) (data_in domain)

  -- the domain went on, and a fault is out of memory, or a stop that the domain then licenses
  pub record GoesOn {T : Type 0} (old new : Self) (result : Result T (SolveFault S)) : Type 0 where
    pub goes_on : g.goes_on (g.state old) (g.state new)
    pub stop : IfErr result (IsCause (g.licensed (g.state new)))

  -- the solver is still under way and went on: what was clear stays clear, no change is lost, and with no new one no
  -- other node waits
  pub record Advances (nodes : List Node) (before : Self) (old : Work V) (after : Self) (new : Work V) : Type 0 where
    pub under_way : IsUnderWay nodes after new
    pub progress : IsProgress (framework_of before) (held_in before old) old.changes.items old.waiting
        (framework_of after) (held_in after new) new.changes.items new.waiting

-- the node is another one, and has a value
pub record IsOtherWithValue {V : Type 0} (values : List (Option V)) (from node : ℕ) : Type 0 where
  pub apart : node ≢ from
  pub held : (v : V) × (value_at values node ≡ Some v)

-- each node but one keeps its value
abbrev pub OthersStay : {V : Type 0} → List (Option V) → ℕ → List (Option V) → Type 0
OthersStay old node new = (n : ℕ) → n ≢ node → value_at new n ≡ value_at old n
