-- Which number each cell has, as an index of the cells keeps it.
use Rattle.std.specs.Prelude.{◌≡◌, ◌⊎◌, ℕ, ◌+◌, ◌-◌, ◌<◌, List, ◌∷◌, Option, Some, slice_get}
use Rattle.std.specs.Ordering.{nat_cmp}
use Rattle.std.specs.Cmp.Lexicographic.{slice_cmp}
use Rattle.std.specs.BTreeMap.{get}
use Rattle.flow_spec.specs.Order.{frame_numbers}
use Rattle.frame_stacks.specs.declared.stacks.StackCell.{StackCell}
use Rattle.frame_stacks.specs.declared.numbers.Numbers.{Numbers}
use Rattle.frame_stacks.specs.Stacks.{AreCells}

-- the number that the index has for a cell
abbrev pub number_of : Numbers → StackCell → Option ℕ
number_of numbers cell = get (slice_cmp nat_cmp) numbers.by_cell (cell.below ∷ frame_numbers cell.frame)

-- one cell has this number, and each other cell what it had
pub record Gives (old new : Numbers) (cell : StackCell) (number : ℕ) : Type 0 where
  pub given : number_of new cell ≡ Some number
  pub others : (other : StackCell) → (other ≡ cell) ⊎ (number_of new other ≡ number_of old other)

-- each cell has the number that it had
abbrev pub IsSame : Numbers → Numbers → Type 0
IsSame old new = (cell : StackCell) → number_of new cell ≡ number_of old cell

-- the numbers of the cells: those of the stacks that they make
pub record AreNumbers (cells : List StackCell) (numbers : Numbers) : Type 0 where
  pub made : (k : ℕ) (cell : StackCell) → slice_get cells k ≡ Some cell → number_of numbers cell ≡ Some (k + 1)
  pub found : (cell : StackCell) (number : ℕ) → number_of numbers cell ≡ Some number
      → (0 < number) × (slice_get cells (number - 1) ≡ Some cell)

-- cells with an index of them
pub record AreNumbered (cells : List StackCell) (numbers : Numbers) : Type 0 where
  pub lawful : AreCells cells
  pub indexed : AreNumbers cells numbers
