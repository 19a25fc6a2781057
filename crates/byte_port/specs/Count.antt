-- What an answer says of a count of faults or of refusals.
-- The words take a result with any value, so that loops over several calls have the same ones.
use Rattle.std.specs.Prelude.{◌≡◌, ℕ, ◌-◌, ◌^◌, ◌<◌, ◌≤◌, ◌⊎◌, Result, Ok, Err}
use Rattle.byte_port.specs.declared.Failed.{Failed}
use Rattle.byte_port.specs.declared.SinkFault.{SinkFault}
use Rattle.byte_port.specs.declared.SinkFault.TheVariants as faults

-- where a count stops: the greatest u64
abbrev pub greatest_count : ℕ
greatest_count = 2 ^ 64 - 1

-- a count is greater now, or stands at the greatest; it never falls
abbrev pub Rose : ℕ → ℕ → Type 0
Rose before now = (before ≤ now) × ((before < now) ⊎ (now ≡ greatest_count))

-- a failure only where the count of faults rose, and else the count as it was
abbrev pub CountsReads : {T : Type 0} → Result T Failed → ℕ → ℕ → Type 0
CountsReads (Ok value) before now = now ≡ before
CountsReads (Err failed) before now = Rose before now

-- a failure only where the count of faults rose, and else the count as it was
abbrev pub CountsFaults : {T : Type 0} → Result T SinkFault → ℕ → ℕ → Type 0
CountsFaults (Ok value) before now = now ≡ before
CountsFaults (Err faults.Failed) before now = Rose before now
CountsFaults (Err faults.OutOfMemory) before now = now ≡ before

-- out of memory only where the count of refusals rose, and else the count as it was
abbrev pub CountsRefusals : {T : Type 0} → Result T SinkFault → ℕ → ℕ → Type 0
CountsRefusals (Ok value) before now = now ≡ before
CountsRefusals (Err faults.Failed) before now = now ≡ before
CountsRefusals (Err faults.OutOfMemory) before now = Rose before now
