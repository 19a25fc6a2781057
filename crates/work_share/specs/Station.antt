-- What a worker is given at its station, what it has done there, and what is gathered of the stations.
use Rattle.std.specs.Prelude.{◌≡◌, ℕ, ◌+◌, ◌<◌, true, false, List, [], ◌∷◌, ◌++◌, All, Contains, map, sum_by}
use Rattle.work_share.specs.declared.close.Gathered.{Gathered}
use Rattle.work_share.specs.declared.station.Numbered.{Numbered}
use Rattle.work_share.specs.declared.station.Station.{Station}
use Rattle.work_share.specs.declared.tickets.Tickets.{Tickets}
use Rattle.work_share.specs.Counts.{times}
use Rattle.work_share.specs.Seat.{drawn_of, has_ended, jobs_of, spare_of, IsSeatOf}

-- a result with its number
abbrev pub numbered : {D : Type 0} → ℕ → D → Numbered D
numbered number done = record { number = number; done = done }

-- the numbers of results
abbrev pub numbers_of : {D : Type 0} → List (Numbered D) → List ℕ
numbers_of results = map (λ entry. entry.number) results

-- each number below `jobs` stands as often in the one list as in the other
abbrev pub SameBelow : ℕ → List ℕ → List ℕ → Type 0
SameBelow jobs xs ys = (x : ℕ) → x < jobs → times x xs ≡ times x ys

-- the states of stations, of which the last has the first
abbrev pub states_of : {S D : Type 0} → List (Station S D) → List S
states_of [] = []
states_of (station ∷ more) = states_of more ++ station.state ∷ []

-- the numbers of the workers of stations, in the order of the states
abbrev pub workers_of : {S D : Type 0} → List (Station S D) → List ℕ
workers_of [] = []
workers_of (station ∷ more) = workers_of more ++ station.worker ∷ []

-- the weights of the seats of stations: of each its spare and 1
abbrev pub weights_of : {S D : Type 0} → List (Station S D) → ℕ
weights_of stations = sum_by (λ station. spare_of station.seat + 1) stations

-- a station before its worker begins
pub record IsReady {S D : Type 0} (IsJob : ℕ → Type 0) (IsFit : S → Type 0)
    (tickets : Tickets) (station : Station S D) : Type 0 where
  pub ours : IsSeatOf tickets station.seat
  pub jobs : (n : ℕ) → n < jobs_of tickets → IsJob n
  pub drawn : drawn_of station.seat ≡ []
  pub fit : IsFit station.state
  pub results : station.results.items ≡ []
  pub going : station.failed ≡ false

-- a worker has run each job that its seat has drawn, until none was left
pub record HasFinished {S D : Type 0} (IsRight : ℕ → S → D → Type 0)
    (jobs : ℕ) (station : Station S D) : Type 0 where
  pub ended : has_ended station.seat ≡ true
  pub drawn : SameBelow jobs (numbers_of station.results.items) (drawn_of station.seat)
  pub small : All (λ entry. entry.number < jobs) station.results.items
  pub right : All (λ entry. IsRight entry.number station.state entry.done) station.results.items

-- a station after its worker
pub record IsOver {S D : Type 0} (IsFit : S → Type 0) (IsRight : ℕ → S → D → Type 0)
    (tickets : Tickets) (station : Station S D) : Type 0 where
  pub ours : IsSeatOf tickets station.seat
  pub fit : IsFit station.state
  pub finished : station.failed ≡ false → HasFinished IsRight (jobs_of tickets) station

-- what a worker does at its station
pub record HasWorked {S D : Type 0} (IsFit : S → Type 0) (GoesOn : S → S → Type 0) (IsRight : ℕ → S → D → Type 0)
    (tickets : Tickets) (old new : Station S D) : Type 0 where
  pub over : IsOver IsFit IsRight tickets new
  pub spare : spare_of new.seat ≡ spare_of old.seat
  pub onward : GoesOn old.state new.state

-- a result is right beside one of the states
abbrev pub IsRightBeside : {S D : Type 0} → (ℕ → S → D → Type 0) → List S → Numbered D → Type 0
IsRightBeside {S} IsRight states entry = (state : S) × Contains states state × IsRight entry.number state entry.done

-- all results of the stations whose states these are
pub record HasGathered {S D : Type 0} (IsRight : ℕ → S → D → Type 0)
    (jobs : ℕ) (states : List S) (gathered : Gathered D) : Type 0 where
  pub ended : has_ended gathered.seat ≡ true
  pub drawn : SameBelow jobs (numbers_of gathered.results.items) (drawn_of gathered.seat)
  pub small : All (λ entry. entry.number < jobs) gathered.results.items
  pub right : All (IsRightBeside IsRight states) gathered.results.items
