-- A run for each node.
use Rattle.std.specs.Prelude.{◌≡◌, ℕ, ◌<◌, List, length, Some, slice_get}
use Rattle.line_blocks.specs.declared.plan.Run.{Run}
use Rattle.line_blocks.specs.Runs.{run_of}

-- the run of one node
abbrev pub one : ℕ → Run
one n = record { head = n; last = n }

-- each number below the count is a run by itself
abbrev pub AreAlone : ℕ → List ℕ → List Run → Type 0
AreAlone count numbers runs = (length numbers ≡ count) × (length runs ≡ count)
    × ((n : ℕ) → n < count → (run_of numbers n ≡ n) × (slice_get runs n ≡ Some (one n)))
