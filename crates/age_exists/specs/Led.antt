-- Entries whose paths move exactly the data that recorded changes lead to.
use Rattle.std.specs.Prelude.{◌≡◌, ℕ, ◌<◌, List, length, map, Option, Some}
use Rattle.path_model.specs.declared.graph.Node.{Node}
use Rattle.path_trail.specs.Trail.{TrailEntry, node_at, IsChain, IsTrail}
use Rattle.lattice_fix.specs.Framework.{Framework}
use Rattle.lattice_fix.specs.Solution.{IsLeast}
use Rattle.lattice_fix.specs.Along.{along}
use Rattle.lattice_fix.specs.Replay.{value_at}
use Rattle.age_exists.specs.Retraced.{Retraced, last_at}

-- the entry is at the node, and x is what is moved along its chain
pub record LeadsTo {D : Type 0} (F : Framework D) (trail : List TrailEntry) (n : ℕ) (x : D) (number : ℕ) : Type 0 where
  pub inside : number < length trail
  pub node : node_at trail number ≡ n
  pub moved : (members : List ℕ) → IsChain trail (Some number) members → along F members ≡ x

-- the last entry of each node that has something leads to it
pub record IsLed {D : Type 0} (F : Framework D) (nodes : List Node) (held : List (Option D)) (t : Retraced)
    : Type 0 where
  pub one_each : length t.last ≡ length held
  pub trail : IsTrail nodes t.entries
  pub found : (n : ℕ) (x : D) → value_at held n ≡ Some x
      → (number : ℕ) × (last_at t.last n ≡ Some number) × LeadsTo F t.entries n x number

-- these are the least solution, and the last entry of each node leads to its number
pub record AreLed (F : Framework ℕ) (nodes : List Node) (bounds : List ℕ) (t : Retraced) : Type 0 where
  pub least : IsLeast F nodes bounds
  pub led : IsLed F nodes (map Some bounds) t
