-- Monotone frameworks over a flow graph and over the graph of its runs.
use Rattle.std.specs.Prelude.{◌≡◌, ◌↔◌, ℕ, ◌<◌, List, length, slice_get}
use Rattle.std.specs.List.{filter_map}
use Rattle.lattice_fix.specs.Framework.{Framework}
use Rattle.line_blocks.specs.declared.plan.Run.{Run}
use Rattle.line_blocks.specs.Runs.{Runs, IsHead, run_of, head_of}

-- both frameworks have the same data, start and order; a node that isn't the first of its run leaves what the first one
-- makes as it is, and a run makes the same of data as its first node
pub record MoveAlike {D : Type 0} (r : Runs) (F G : Framework D) : Type 0 where
  pub carrier : (x : D) → F.carrier x ↔ G.carrier x
  pub below : (x y : D) → F.below x y ↔ G.below x y
  pub start : G.start ≡ F.start
  pub again : (m : ℕ) (x : D) → m < length r.nodes → (IsHead r.numbers r.runs m → ⊥) → F.carrier x
      → F.transfer m (F.transfer (head_of r.runs (run_of r.numbers m)) x)
      ≡ F.transfer (head_of r.runs (run_of r.numbers m)) x
  pub heads : (p : ℕ) (x : D) → p < length r.runs → F.carrier x → G.transfer p x ≡ F.transfer (head_of r.runs p) x

-- the data at the first nodes of the runs
abbrev pub head_data : {D : Type 0} → List D → List Run → List D
head_data held runs = filter_map (λ run. slice_get held run.head) runs
