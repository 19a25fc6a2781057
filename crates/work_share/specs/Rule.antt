-- The rule of the counter, which stands between any two steps, and what each step tells its seat.
use Rattle.std.specs.Prelude.{◌≡◌, ℕ, ◌+◌, ◌-◌, ◌<◌, ◌≤◌, Bool, true, false, ◌||◌, if◌then◌else◌, nat_le}
use Rattle.std.specs.Prelude.{List, [], ◌∷◌, ◌++◌, length, slice_index, sum_by, All}
use Rattle.atomic_table.specs.Table.{State, Me, Step}
use Rattle.work_share.specs.declared.rule.SeatView.{SeatView}
use Rattle.work_share.specs.Counts.{times, once_below, IsEachBelow}

-- the counter, as one word, and the view of each seat
abbrev pub Office : Type 0
Office = State (Unit {0}) SeatView

-- one seat
abbrev pub Mine : Type 0
Mine = Me (Unit {0}) SeatView

-- what the rule has of a seat: the number of jobs, its weight, whether it has ended, and its list
abbrev pub seat_view : ℕ → ℕ → Bool → List ℕ → SeatView
seat_view jobs weight ended drawn = record { jobs = jobs; weight = weight; ended = ended; drawn = drawn }

-- the counter: the least number that is not drawn yet
abbrev pub counter_of : Office → ℕ
counter_of office = slice_index office.words 0

-- the weight of a seat: its spare and 1
abbrev pub weight_of : SeatView → ℕ
weight_of view = view.weight

-- the weight of a seat that has ended, and 0 of any other
abbrev pub ended_weight : SeatView → ℕ
ended_weight view = if view.ended then view.weight else 0

-- what the counter and all seats keep between any two steps
pub record AddsUp (jobs : ℕ) (office : Office) : Type 0 where
  -- the counter is the only word
  pub one_word : length office.words ≡ 1
  -- the weights add up to 64
  pub weights : sum_by weight_of office.views ≡ 64
  -- the lists of all seats have each number below the counter, in one list and once, and no other
  pub each : (x : ℕ) → sum_by (λ view. times x view.drawn) office.views ≡ once_below x (counter_of office)
  -- the counter is at most `jobs` and the weights of the seats that have ended
  pub bound : counter_of office ≤ jobs + sum_by ended_weight office.views
  -- the counter is above `jobs` where some seat has ended
  pub past : All (λ view. view.ended ≡ true → jobs < counter_of office) office.views
  -- a seat that was joined to another has no weight, and its list is empty
  pub joined : All (λ view. view.weight ≡ 0 → view.drawn ≡ []) office.views

-- the first seat
abbrev pub first_view : ℕ → SeatView
first_view jobs = seat_view jobs 64 false []

-- a seat after it drew a number
abbrev pub view_after : SeatView → ℕ → SeatView
view_after view number = seat_view view.jobs view.weight (nat_le view.jobs number) (view.drawn ++ number ∷ [])

-- a draw: the number is greater than those before, and the only seat has each number up to it
abbrev pub HasDrawn : Step (Unit {0}) → Mine → ℕ → Mine → Type 0
HasDrawn step old number new =
    (new.0 ≡ view_after old.0 number)
    × (new.1 ≡ old.1)
    × All (λ earlier. earlier < number) old.0.drawn
    × (old.0.weight ≡ 64 → IsEachBelow (number + 1) new.0.drawn)

-- a look at the counter: the only seat has each number below it, and it is above `jobs` where the seat has ended
abbrev pub HasLooked : Step (Unit {0}) → Mine → ℕ → Mine → Type 0
HasLooked step old counter new =
    (new ≡ old)
    × (old.0.weight ≡ 64 → IsEachBelow counter old.0.drawn)
    × (old.0.ended ≡ true → old.0.jobs < counter)

-- a seat after another was made beside it
abbrev pub kept_view : SeatView → SeatView
kept_view view = seat_view view.jobs (view.weight - 1) view.ended view.drawn

-- the other
abbrev pub new_view : SeatView → SeatView
new_view view = seat_view view.jobs 1 view.ended []

-- a seat that took in another
abbrev pub joined_view : SeatView → SeatView → SeatView
joined_view view other =
    seat_view view.jobs (view.weight + other.weight) (view.ended || other.ended) (view.drawn ++ other.drawn)

-- what is left of the other
abbrev pub spent_view : SeatView
spent_view = seat_view 0 0 false []
