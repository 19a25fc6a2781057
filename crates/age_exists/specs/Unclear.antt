-- Which fetches the numbers at hand leave unclear, node by node.
use Rattle.std.specs.Prelude.{◌≡◌, ℕ, ◌<◌, Bool, true, false, not, ◌&&◌, ◌==◌, nat_lt, if◌then◌else◌, List, length, Option, Some, None, slice_index_or}
use Rattle.focus_spec.specs.Younger.{fetch_at}
use Rattle.set_view.specs.View.{View}
use Rattle.age_spec.specs.Ages.{age_of, age_at}
use Rattle.age_exists.specs.Columns.{column_at}
use Rattle.age_exists.specs.Those.{AreThose}

-- the ages by node and block, and the bounds by block and node
pub record Numbers : Type 0 where
  pub must : List (List ℕ)
  pub may : List (List ℕ)
  pub hit : List (List ℕ)
  pub miss : List (List ℕ)

-- with these members
abbrev pub numbers_of : List (List ℕ) → List (List ℕ) → List (List ℕ) → List (List ℕ) → Numbers
numbers_of must may hit miss = record { must = must; may = may; hit = hit; miss = miss }

-- these four numbers of a fetch leave it unclear
abbrev pub is_unclear : ℕ → ℕ → ℕ → ℕ → ℕ → Bool
is_unclear ways must may hit miss = (must == ways) && (nat_lt may ways && not (nat_lt hit ways && (miss == ways)))

-- those of a node and a local block do
abbrev pub unclear_at : View → Numbers → ℕ → ℕ → Bool
unclear_at view f n local =
    is_unclear view.geometry.ways (age_of f.must n local) (age_of f.may n local) (age_at (column_at f.hit local) n)
    (age_at (column_at f.miss local) n)

-- the block that a node fetches, where its fetch is unclear
abbrev pub unclear_of : View → Numbers → ℕ → Option ℕ → Option ℕ
unclear_of view f n None = None
unclear_of view f n (Some local) = if unclear_at view f n local then Some local else None

-- the same of the fetch that the view has for the node
abbrev pub unclear_fetch : View → Numbers → ℕ → Option ℕ
unclear_fetch view f n = unclear_of view f n (fetch_at view.fetches n)

-- the mark of a local block
abbrev pub mark_at : List Bool → ℕ → Bool
mark_at marks local = slice_index_or marks local false

-- the marked blocks are those with an unclear fetch by one of the first nodes
pub record AreMarks (view : View) (f : Numbers) (count : ℕ) (marks : List Bool) : Type 0 where
  pub one_each : length marks ≡ length view.blocks
  pub sound : (local : ℕ) → mark_at marks local ≡ true
      → (n : ℕ) × (n < count) × (unclear_fetch view f n ≡ Some local)
  pub complete : (n local : ℕ) → n < count → unclear_fetch view f n ≡ Some local → mark_at marks local ≡ true

-- these are the places of the first marks, rising
abbrev pub AreMarked : List Bool → ℕ → List ℕ → Type 0
AreMarked marks count locals = AreThose (λ local. mark_at marks local ≡ true) count locals
