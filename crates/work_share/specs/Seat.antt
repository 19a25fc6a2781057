-- What clauses see of tickets and their seats.
use Rattle.std.specs.Prelude.{◌≡◌, ℕ, ◌-◌, ◌<◌, Bool, true, List, length, slice_index, Option, Some, None}
use Rattle.std.specs.Prelude.{if◌then◌else◌, nat_lt}
use Rattle.work_share.specs.declared.tickets.TicketSeat.{TicketSeat}
use Rattle.work_share.specs.declared.tickets.Tickets.{Tickets}
use Rattle.work_share.specs.Counts.{IsEachBelow}

-- the number of jobs
abbrev pub jobs_of : Tickets → ℕ
jobs_of tickets = tickets.jobs

-- the numbers that a seat has drawn, the first of them first
abbrev pub drawn_of : TicketSeat → List ℕ
drawn_of seat = seat.seat.me.0.drawn

-- whether a seat has drawn a number that is no job's
abbrev pub has_ended : TicketSeat → Bool
has_ended seat = seat.seat.me.0.ended

-- how often a seat can be split
abbrev pub spare_of : TicketSeat → ℕ
spare_of seat = seat.seat.me.0.weight - 1

-- the seat draws from these tickets
abbrev pub IsSeatOf : Tickets → TicketSeat → Type 0
IsSeatOf tickets seat = (seat.seat.table_id ≡ tickets.table.shared.table_id) × (seat.seat.me.0.jobs ≡ tickets.jobs)

-- the number that a draw has put behind those of before
abbrev pub number_drawn : TicketSeat → TicketSeat → ℕ
number_drawn old new = slice_index (drawn_of new) (length (drawn_of old))

-- the number, where it is a job's
abbrev pub job_below : ℕ → ℕ → Option ℕ
job_below jobs number = if nat_lt number jobs then Some number else None

-- the seat has each number below the counter once and no other, and the counter is above `jobs` where it has ended
pub record HasEachBelow (jobs : ℕ) (seat : TicketSeat) : Type 0 where
  pub counter : ℕ
  pub each : IsEachBelow counter (drawn_of seat)
  pub past : has_ended seat ≡ true → jobs < counter
