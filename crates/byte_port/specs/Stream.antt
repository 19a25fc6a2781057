-- What reading to the end and sending a whole text leave of the bytes, and say of the counts.
use Rattle.std.specs.Prelude.{◌≡◌, ℕ, ◌≤◌, List, length, take, Option, Result, Ok, Err}
use Rattle.std.specs.Io.KnownBytes.{Appends, Consumes}
use Rattle.byte_port.specs.Count.{Rose}
use Rattle.byte_port.specs.declared.streams.ReadStop.{ReadStop}
use Rattle.byte_port.specs.declared.streams.ReadStop.TheVariants as stops

-- a part of the text, from its beginning on, was sent
abbrev pub SendsPrefix : Option (List ℕ) → Option (List ℕ) → List ℕ → Type 0
SendsPrefix old new text = (n : ℕ) × (n ≤ length text) × Appends old new (take n text)

-- this many bytes were taken
abbrev pub Takes : Option (List ℕ) → Option (List ℕ) → ℕ → Type 0
Takes old new count = (taken : List ℕ) × (length taken ≡ count) × Consumes old new taken

-- no more than this many bytes were taken
abbrev pub TakesAtMost : Option (List ℕ) → Option (List ℕ) → ℕ → Type 0
TakesAtMost old new most = (count : ℕ) × (count ≤ most) × Takes old new count

-- a failure only where the count of faults rose, and else the count as it was
abbrev pub CountsStop : {T : Type 0} → Result T ReadStop → ℕ → ℕ → Type 0
CountsStop (Ok value) before now = now ≡ before
CountsStop (Err stops.Failed) before now = Rose before now
CountsStop (Err stops.TooBig) before now = now ≡ before
CountsStop (Err stops.OutOfMemory) before now = now ≡ before
