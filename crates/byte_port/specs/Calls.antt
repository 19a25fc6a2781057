-- How a source was read, and a sink written, call by call. A step is what one call does: the state before, the answer, and
-- the state after.
use Rattle.std.specs.Prelude.{◌≡◌, ℕ, ◌<◌, List, [], ◌∷◌, Option, Result, Ok, Err}
use Rattle.std.specs.Io.KnownBytes.{Keeps}
use Rattle.byte_port.specs.declared.Failed.{Failed}
use Rattle.byte_port.specs.declared.SinkFault.{SinkFault}
use Rattle.byte_port.specs.declared.streams.ReadStop.{ReadStop}
use Rattle.byte_port.specs.declared.streams.ReadStop.TheVariants as stops

-- calls that moved these counts of bytes, at least one byte each, the last call first
abbrev pub MovesEach : {P E : Type 0} → (P → Result ℕ E → P → Type 0) → List ℕ → P → P → Type 0
MovesEach step [] old new = new ≡ old
MovesEach {P} step (count ∷ earlier) old new =
    (before : P) × MovesEach step earlier old before × (0 < count) × step before (Ok count) new

-- calls that each moved some bytes, or no call
abbrev pub MovesSome : {P E : Type 0} → (P → Result ℕ E → P → Type 0) → P → P → Type 0
MovesSome step old new = (counts : List ℕ) × MovesEach step counts old new

-- calls that each moved some bytes, and then one call with this answer
abbrev pub EndsWith : {P E : Type 0} → (P → Result ℕ E → P → Type 0) → Result ℕ E → P → P → Type 0
EndsWith {P} step answer old new = (last : P) × MovesSome step old last × step last answer new

-- reads that each gave some bytes, and then one that failed: no fault came before it, and no byte with it
abbrev pub EndsAtFault : {P : Type 0} → (P → Result ℕ Failed → P → Type 0) → (P → Option (List ℕ)) → (P → ℕ) → P → P
    → Type 0
EndsAtFault {P} reads left faults old new =
    (last : P) × MovesSome reads old last × ((failed : Failed) × reads last (Err failed) new)
    × (faults last ≡ faults old) × Keeps (left last) (left new)

-- how reading to the end went: its last read gave nothing, or failed, or brought more than may be kept
abbrev pub ReadsBy : {P T : Type 0} → (P → Result ℕ Failed → P → Type 0) → (P → Option (List ℕ)) → (P → ℕ)
    → Result T ReadStop → P → P → Type 0
ReadsBy reads left faults (Ok value) old new = EndsWith reads (Ok 0) old new
ReadsBy reads left faults (Err stops.Failed) old new = EndsAtFault reads left faults old new
ReadsBy reads left faults (Err stops.TooBig) old new = MovesSome reads old new
ReadsBy reads left faults (Err stops.OutOfMemory) old new = MovesSome reads old new

-- how sending a text went: its last write is the first that failed or was refused, or there is no such write
abbrev pub SendsBy : {P T : Type 0} → (P → Result ℕ SinkFault → P → Type 0) → Result T SinkFault → P → P → Type 0
SendsBy writes (Ok value) old new = MovesSome writes old new
SendsBy writes (Err fault) old new = EndsWith writes (Err fault) old new
