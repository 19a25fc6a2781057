-- The sources and sinks in memory that never fail, as their callers see them.
use Rattle.std.specs.Prelude.{◌≡◌, ℕ, ◌+◌, List, ◌++◌, length, take, drop, min, Result, Ok, Err}
use Rattle.byte_port.specs.Count.{greatest_count}
use Rattle.byte_port.specs.declared.Failed.{Failed}
use Rattle.byte_port.specs.declared.SinkFault.{SinkFault}
use Rattle.byte_port.specs.declared.SinkFault.TheVariants as faults

-- the bytes that are left, and how many one read gives at most
pub record Supply : Type 0 where
  pub left : List ℕ
  pub piece : ℕ

-- how many bytes a read into a buffer of this length gives
abbrev pub given_count : Supply → ℕ → ℕ
given_count supply room = min (min supply.piece room) (length supply.left)

-- the supply without its first n bytes
abbrev pub without : Supply → ℕ → Supply
without supply n = record supply { left = drop n supply.left }

-- one read: it takes the bytes that it gives, and never fails
abbrev pub IsRead : Supply → Result ℕ Failed → Supply → Type 0
IsRead old (Ok n) new = new ≡ without old n
IsRead old (Err failed) new = ⊥

-- a buffer that begins with what a read into it gives
abbrev pub filled : Supply → List ℕ → List ℕ
filled supply buf =
    take (given_count supply (length buf)) supply.left ++ drop (given_count supply (length buf)) buf

-- the bytes that were sent, how many one write takes at most, and how many writes were refused since memory ran out
pub record Store : Type 0 where
  pub sent : List ℕ
  pub piece : ℕ
  pub refusals : ℕ

-- how many bytes a write of a piece of this length takes
abbrev pub taken_count : Store → ℕ → ℕ
taken_count store room = min store.piece room

-- the store after a write of this piece
abbrev pub with_sent : Store → List ℕ → Store
with_sent store piece =
    record store { sent = store.sent ++ take (taken_count store (length piece)) piece }

-- the store after a write that was refused
abbrev pub with_refusal : Store → Store
with_refusal store = record store { refusals = min (store.refusals + 1) greatest_count }

-- one write: some of a piece was taken, or it was refused; it never fails
abbrev pub IsWrite : Store → Result ℕ SinkFault → Store → Type 0
IsWrite old (Ok n) new = (piece : List ℕ) × (n ≡ taken_count old (length piece)) × (new ≡ with_sent old piece)
IsWrite old (Err faults.OutOfMemory) new = new ≡ with_refusal old
IsWrite old (Err faults.Failed) new = ⊥
