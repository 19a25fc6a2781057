-- The laws of what is pending: they carry a text from line to line, up to its end or to an error.
use Rattle.std.proofs.Common.{◌≡◌, ℕ, ◌+◌, List, [], ◌++◌, length, take, Result, Ok, Err, inl, inr, refl, sym, ap, subst, arith, ◌∙◌, append_assoc}
use Rattle.std.proofs.Math.Seq.{take-length, take-append-add}
use Rattle.std.proofs.lemmas.Grind.{common_steps}
use Rattle.std.proofs.KnownBytes.{Appends-nil, Appends-trans}
use Rattle.std.specs.Io.KnownBytes.{Appends}
use Rattle.std.specs.declared.option.Option.{Option}
use Rattle.byte_port.specs.Stream.{SendsPrefix}
use Rattle.byte_port.specs.Calls.{MovesSome}
use Rattle.byte_port.specs.declared.SinkFault.{SinkFault}
use Rattle.byte_port.specs.declared.SinkFault.TheVariants as faults
use Rattle.byte_port.proofs.Moves.{MovesSome-trans, EndsWith-after}
use Rattle.line_sender.specs.Pending.{Pending, WritesBy}

-- before anything is sent, the buffer alone is pending: at the beginning of a report, nothing
pub Pending-start : (a : Option (List ℕ)) (buffer : List ℕ) → Pending a a buffer buffer
Pending-start a buffer = ([], Appends-nil a, refl)

-- more text came after the buffer
pub Pending-more : (a b : Option (List ℕ)) (buffer text more : List ℕ)
    → Pending a b buffer text → Pending a b (buffer ++ more) (text ++ more)
Pending-more a b buffer text more before =
    (before.0, before.1, sym (append_assoc before.0 buffer more) ∙ ap (λ head. head ++ more) before.2)

-- some of the buffer went over
pub Pending-trans : (a b c : Option (List ℕ)) (buffer left text : List ℕ)
    → Pending a b buffer text → Pending b c left buffer → Pending a c left text
Pending-trans a b c buffer left text before next = (
  before.0 ++ next.0,
  Appends-trans a b c before.0 next.0 before.1 next.1,
  append_assoc before.0 next.0 left ∙ ap (λ rest. before.0 ++ rest) next.2 ∙ before.2,
)

-- a line came after the buffer, and then some of both went over
pub Pending-line : (a b c : Option (List ℕ)) (buffer left text line : List ℕ)
    → Pending a b buffer text → Pending b c left (buffer ++ line) → Pending a c left (text ++ line)
Pending-line a b c buffer left text line before next =
    Pending-trans a b c (buffer ++ line) left (text ++ line) (Pending-more a b buffer text line before) next

-- the whole buffer went over, and so the whole text
pub Appends-pending : (a b c : Option (List ℕ)) (buffer text : List ℕ)
    → Pending a b buffer text → Appends b c buffer → Appends a c text
Appends-pending a b c buffer text before rest =
    subst (Appends a c) before.2 (Appends-trans a b c before.0 buffer before.1 rest)

-- no byte of a text is a prefix of it
pub SendsPrefix-none : (a : Option (List ℕ)) (text : List ℕ) → SendsPrefix a a text
SendsPrefix-none a text = (0, grind (arith, common_steps), Appends-nil a)

-- the whole text is a prefix of it
pub SendsPrefix-whole : (a b : Option (List ℕ)) (text : List ℕ) → Appends a b text → SendsPrefix a b text
SendsPrefix-whole a b text whole = (length text, omega arith, rw (take-length text) whole)

-- a prefix of a text is a prefix of a longer one
pub SendsPrefix-more : (a b : Option (List ℕ)) (text more : List ℕ)
    → SendsPrefix a b text → SendsPrefix a b (text ++ more)
SendsPrefix-more a b text more part =
    let same : take part.0 (text ++ more) ≡ take part.0 text = grind (arith, common_steps, part.1) in
    (part.0, grind (arith, common_steps, part.1), subst (Appends a b) (sym same) part.2)

-- a text, and then a prefix of what follows it
pub SendsPrefix-after : (a b c : Option (List ℕ)) (text more : List ℕ)
    → Appends a b text → SendsPrefix b c more → SendsPrefix a c (text ++ more)
SendsPrefix-after a b c text more before part = (
  length text + part.0,
  grind (arith, common_steps, part.1),
  rw (take-append-add text more part.0) (Appends-trans a b c text (take part.0 more) before part.2),
)

-- what went over of a pending text is a prefix of it
pub SendsPrefix-of_pending : (a b : Option (List ℕ)) (buffer text : List ℕ)
    → Pending a b buffer text → SendsPrefix a b text
SendsPrefix-of_pending a b buffer text before =
    subst (SendsPrefix a b) before.2 (SendsPrefix-more a b before.0 buffer (SendsPrefix-whole a b before.0 before.1))

-- a prefix of the buffer went over, and so a prefix of the text
pub SendsPrefix-pending : (a b c : Option (List ℕ)) (buffer text : List ℕ)
    → Pending a b buffer text → SendsPrefix b c buffer → SendsPrefix a c text
SendsPrefix-pending a b c buffer text before part =
    subst (SendsPrefix a c) before.2 (SendsPrefix-after a b c before.0 buffer before.1 part)

-- a line came after the buffer, and then a prefix of both went over
pub SendsPrefix-line : (a b c : Option (List ℕ)) (buffer text line : List ℕ)
    → Pending a b buffer text → SendsPrefix b c (buffer ++ line) → SendsPrefix a c (text ++ line)
SendsPrefix-line a b c buffer text line before part =
    SendsPrefix-pending a b c (buffer ++ line) (text ++ line) (Pending-more a b buffer text line before) part

-- writes, and then a sending
pub WritesBy-after : {P T : Type 0} (writes : P → Result ℕ SinkFault → P → Type 0) (r : Result T SinkFault) (a b c : P)
    → MovesSome writes a b → WritesBy writes r b c → WritesBy writes r a c
WritesBy-after writes (Ok value) a b c before next = MovesSome-trans writes a b c before next
WritesBy-after writes (Err faults.Failed) a b c before next =
    EndsWith-after writes (Err faults.Failed) a b c before next
WritesBy-after writes (Err faults.OutOfMemory) a b c before (inl next) = inl (MovesSome-trans writes a b c before next)
WritesBy-after writes (Err faults.OutOfMemory) a b c before (inr next) =
    inr (EndsWith-after writes (Err faults.OutOfMemory) a b c before next)
