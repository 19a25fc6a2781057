-- What stands in a buffer between a report and its sink, and what an answer says of the sink's counts.
use Rattle.std.specs.Prelude.{◌≡◌, ◌⊎◌, ℕ, ◌≤◌, List, ◌++◌, Option, Result, Ok, Err}
use Rattle.std.specs.Io.KnownBytes.{Appends}
use Rattle.byte_port.specs.Calls.{MovesSome, EndsWith}
use Rattle.byte_port.specs.declared.Sink.{Ghosts}
use Rattle.byte_port.specs.declared.SinkFault.{SinkFault}
use Rattle.byte_port.specs.declared.SinkFault.TheVariants as faults

-- since the sink stood at `begun`, what was sent and then the buffer are the text
abbrev pub Pending : Option (List ℕ) → Option (List ℕ) → List ℕ → List ℕ → Type 0
Pending begun now buffer text = (sent : List ℕ) × Appends begun now sent × (sent ++ buffer ≡ text)

-- the same since the sink was as it was then
abbrev pub IsPending : {O : Type 0} → Ghosts O → O → O → List ℕ → List ℕ → Type 0
IsPending g begun now buffer text = Pending (g.sent begun) (g.sent now) buffer text

-- refusals only where memory ran out, which may also be the buffer's own, and else the count as it was
abbrev pub MayRefuse : {T : Type 0} → Result T SinkFault → ℕ → ℕ → Type 0
MayRefuse (Ok value) before now = now ≡ before
MayRefuse (Err faults.Failed) before now = now ≡ before
MayRefuse (Err faults.OutOfMemory) before now = before ≤ now

-- how sending went, write by write: its last write is the first that failed or was refused, or there is no such write
abbrev pub WritesBy : {P T : Type 0} → (P → Result ℕ SinkFault → P → Type 0) → Result T SinkFault → P → P → Type 0
WritesBy writes (Ok value) old new = MovesSome writes old new
WritesBy writes (Err faults.Failed) old new = EndsWith writes (Err faults.Failed) old new
WritesBy writes (Err faults.OutOfMemory) old new =
    MovesSome writes old new ⊎ EndsWith writes (Err faults.OutOfMemory) old new
