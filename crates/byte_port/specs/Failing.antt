-- The source and the sink in memory that fail at named calls, as their callers see them.
use Rattle.std.specs.Prelude.{◌≡◌, ℕ, ◌+◌, List, Contains, length, min, Result, Ok, Err}
use Rattle.byte_port.specs.Count.{greatest_count}
use Rattle.byte_port.specs.Sure.{Supply, without, Store, taken_count, with_sent, with_refusal}
use Rattle.byte_port.specs.declared.Failed.{Failed}
use Rattle.byte_port.specs.declared.SinkFault.{SinkFault}
use Rattle.byte_port.specs.declared.SinkFault.TheVariants as faults

-- the numbers of the calls that fail, the number of the next call, and how many calls failed
pub record Schedule : Type 0 where
  pub failing : List ℕ
  pub next_call : ℕ
  pub faults : ℕ

-- the next call is one of those that fail
abbrev pub FailsNext : Schedule → Type 0
FailsNext calls = Contains calls.failing calls.next_call

-- the schedule after a call that didn't fail
abbrev pub after_call : Schedule → Schedule
after_call calls = record calls { next_call = min (calls.next_call + 1) greatest_count }

-- the schedule after a call that failed
abbrev pub after_failure : Schedule → Schedule
after_failure calls = record (after_call calls) { faults = min (calls.faults + 1) greatest_count }

-- the bytes that are left with how many one read gives at most, and the calls
pub record FailingSupply : Type 0 where
  pub supply : Supply
  pub calls : Schedule

-- the source after a read that gave n bytes
abbrev pub after_read : FailingSupply → ℕ → FailingSupply
after_read source n = record { supply = without source.supply n; calls = after_call source.calls }

-- the source after a read that failed: nothing was taken
abbrev pub after_failed_read : FailingSupply → FailingSupply
after_failed_read source = record source { calls = after_failure source.calls }

-- one read: it fails at the calls named, and else takes the bytes that it gives
abbrev pub IsRead : FailingSupply → Result ℕ Failed → FailingSupply → Type 0
IsRead old (Ok n) new = (FailsNext old.calls → ⊥) × (new ≡ after_read old n)
IsRead old (Err failed) new = FailsNext old.calls × (new ≡ after_failed_read old)

-- the bytes that were sent with how many one write takes at most and the refusals, and the calls
pub record FailingStore : Type 0 where
  pub store : Store
  pub calls : Schedule

-- the sink after a write of this piece
abbrev pub after_write : FailingStore → List ℕ → FailingStore
after_write sink piece = record { store = with_sent sink.store piece; calls = after_call sink.calls }

-- the sink after a write that was refused: nothing was sent, and the call didn't fail
abbrev pub after_refusal : FailingStore → FailingStore
after_refusal sink = record { store = with_refusal sink.store; calls = after_call sink.calls }

-- the sink after a write that failed: nothing was sent
abbrev pub after_failed_write : FailingStore → FailingStore
after_failed_write sink = record sink { calls = after_failure sink.calls }

-- one write: it fails at the calls named; else some of a piece was taken, or it was refused
abbrev pub IsWrite : FailingStore → Result ℕ SinkFault → FailingStore → Type 0
IsWrite old (Ok n) new = (FailsNext old.calls → ⊥)
    × ((piece : List ℕ) × (n ≡ taken_count old.store (length piece)) × (new ≡ after_write old piece))
IsWrite old (Err faults.OutOfMemory) new = (FailsNext old.calls → ⊥) × (new ≡ after_refusal old)
IsWrite old (Err faults.Failed) new = FailsNext old.calls × (new ≡ after_failed_write old)
