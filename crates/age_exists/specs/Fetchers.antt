-- The nodes that fetch each block of a set.
use Rattle.std.specs.Prelude.{◌≡◌, ℕ, ◌<◌, List, length, Some}
use Rattle.focus_spec.specs.Younger.{fetch_at}
use Rattle.set_view.specs.View.{View}
use Rattle.age_exists.specs.Columns.{column_at}
use Rattle.age_exists.specs.Those.{AreThose}

-- for each local block those of the first nodes that fetch it, rising
pub record HaveFetchers (view : View) (count : ℕ) (fetchers : List (List ℕ)) : Type 0 where
  pub one_each : length fetchers ≡ length view.blocks
  pub each : (block : ℕ) → block < length view.blocks
      → AreThose (λ n. fetch_at view.fetches n ≡ Some block) count (column_at fetchers block)
