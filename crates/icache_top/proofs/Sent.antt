-- A report's text, line after line.
use Rattle.std.proofs.Common.{◌≡◌, ℕ, List, [], ◌∷◌, ◌++◌, refl, sym, ap, subst, ◌∙◌, append-nil, append_assoc, inl, inr, arith}
use Rattle.std.specs.Prelude.{Bool, true, false, Option, Some, None, Result, Ok, Err, OnErr}
use Rattle.flow_spec.specs.Program.{program}
use Rattle.byte_port.specs.Stream.{SendsPrefix}
use Rattle.line_sender.specs.Pending.{Pending}
use Rattle.line_sender.proofs.Pending.{Pending-line, Pending-trans, SendsPrefix-line, SendsPrefix-more, SendsPrefix-none, SendsPrefix-pending}
use Rattle.line_sender.proofs.Text.{text_of-append}
use Rattle.node_spec.specs.Verdict.{HaveWays, kept_for}
use Rattle.node_spec.specs.Plan.{Layout, IsByAddress, IsByNumber}
use Rattle.report_spec.specs.declared.line.Line.{Line}
use Rattle.node_spec.specs.declared.verdict.NodeVerdict.{NodeVerdict}
use Rattle.report_spec.specs.Text.{line_text, text_of}
use Rattle.report_lines.specs.Lines.{Stands, AreAllFrom, AreAllBefore}
use Rattle.node_spec.specs.Valid.{AreValid}
use Rattle.report_lines.proofs.Made.{rest}
use Rattle.report_lines.proofs.Valid.{right_valid}
use Rattle.icache_top.specs.Lines.{AreFound, SendsAll, SendsNext, SendsPart}

line_after : (head : List Line) (line : Line) → text_of head ++ line_text line ≡ text_of (head ++ line ∷ [])
line_after head line =
    ap (λ last. text_of head ++ last) (sym (append-nil (line_text line))) ∙ sym (text_of-append head (line ∷ []))

module _ (At : ℕ → Option (Line × Option ℕ) → Type 0) where
  -- one line more
  before_more : (from : ℕ) (head : List Line) (line : Line) (next : Option ℕ) → AreAllBefore At (Some from) head
      → At from (Some (line, next)) → AreAllBefore At next (head ++ line ∷ [])
  before_more from head line next before at = λ rest all.
      subst (AreAllFrom At (Some 0)) (sym (append_assoc head (line ∷ []) rest)) (before (line ∷ rest) (next, at, all))

  -- no line is left
  before_all : (from : ℕ) (head : List Line) (next : Option ℕ) → AreAllBefore At (Some from) head → At from None
      → next ≡ None
      → AreAllBefore At next head
  before_all from head next before none is = λ rest all.
      let empty : rest ≡ [] = subst (λ (p : Option ℕ). AreAllFrom At p rest) is all in
      subst (λ (lines : List Line). AreAllFrom At (Some 0) (head ++ lines)) (sym empty) (before [] none)

  -- all lines stand before the end
  pub whole : (head : List Line) → AreAllBefore At None head → AreAllFrom At (Some 0) head
  whole head before = subst (AreAllFrom At (Some 0)) (append-nil head) (before [] refl)

  -- the line at a cursor went to the buffer, or none was left
  pub sent_next : (a b c : Option (List ℕ)) (buffer left : List ℕ) (from : ℕ) (next : Option ℕ)
      → (head : List Line) × AreAllBefore At (Some from) head × Pending a b buffer (text_of head)
      → SendsNext At from (Pending b c left) buffer next
      → (head : List Line) × AreAllBefore At next head × Pending a c left (text_of head)
  sent_next a b c buffer left from next (head, before, pending) (inl (none, is, same)) =
      (head, before_all from head next before none is, Pending-trans a b c buffer left (text_of head) pending same)
  sent_next a b c buffer left from next (head, before, pending) (inr (line, at, sent)) = (
    head ++ line ∷ [],
    before_more from head line next before at,
    subst (λ (text : List ℕ). Pending a c left text) (line_after head line)
        (Pending-line a b c buffer left (text_of head) (line_text line) pending sent),
  )

module _ (contexts : Bool) (on : Layout) (verdicts : List NodeVerdict) (found : AreFound contexts on verdicts) where
  abbrev At : ℕ → Option (Line × Option ℕ) → Type 0
  At = Stands contexts on verdicts

  -- there are lines from each cursor on
  there : (cursor : Option ℕ) → (lines : List Line) × AreAllFrom At cursor lines
  there cursor =
      let (line, entry, g, start, findings) = found in
      rest (program on.image on.isa line entry) g start contexts on.configurations on.nodes verdicts findings cursor

  -- a prefix of what stands before a cursor was sent
  part_before : (a c : Option (List ℕ)) (head : List Line) (cursor : Option ℕ) → AreAllBefore At cursor head
      → SendsPrefix a c (text_of head)
      → SendsAll contexts on verdicts (SendsPrefix a c)
  part_before a c head cursor before part =
      let (lines, all) = there cursor in (
        head ++ lines,
        before lines all,
        subst (SendsPrefix a c) (sym (text_of-append head lines))
            (SendsPrefix-more a c (text_of head) (text_of lines) part),
      )

  -- a prefix of the lines so far was sent
  pub part_sent : (a b c : Option (List ℕ)) (buffer : List ℕ) (from : ℕ)
      → (head : List Line) × AreAllBefore At (Some from) head × Pending a b buffer (text_of head)
      → SendsPart At from (SendsPrefix b c) buffer → SendsAll contexts on verdicts (SendsPrefix a c)
  part_sent a b c buffer from (head, before, pending) (inl part) =
      part_before a c head (Some from) before (SendsPrefix-pending a b c buffer (text_of head) pending part)
  part_sent a b c buffer from (head, before, pending) (inr (line, next, at, part)) =
      part_before a c (head ++ line ∷ []) next (before_more At from head line next before at)
      (subst (SendsPrefix a c) (line_after head line) (SendsPrefix-line a b c buffer (text_of head) (line_text line)
      pending part))

  -- nothing was sent
  pub none_sent : (a : Option (List ℕ)) → SendsAll contexts on verdicts (SendsPrefix a a)
  none_sent a = let (lines, all) = there (Some 0) in (lines, all, SendsPrefix-none a (text_of lines))

-- the verdicts that were found are valid
pub found_valid : (contexts : Bool) (on : Layout) (verdicts : List NodeVerdict) → AreFound contexts on verdicts
    → AreValid verdicts
found_valid contexts on verdicts (line, entry, g, start, found) =
    right_valid on.nodes g start verdicts (λ n below. found.right n (omega (arith, below, found.one_each)))

-- and have the ways that the lines need
pub found_ways : (contexts : Bool) (on : Layout) (verdicts : List NodeVerdict) → AreFound contexts on verdicts
    → HaveWays on.nodes verdicts (kept_for contexts)
found_ways contexts on verdicts (line, entry, g, start, found) = found.ways

-- which line stands at a cursor, either way
pub stands : (contexts : Bool) (on : Layout) (verdicts : List NodeVerdict) (from : ℕ) (at : Option (Line × Option ℕ))
    → (contexts ≡ false → IsByAddress on verdicts from at)
    → (contexts ≡ true → IsByNumber on.configurations verdicts from at) → Stands contexts on verdicts from at
stands true on verdicts from at by_address by_number = by_number refl
stands false on verdicts from at by_address by_number = by_address refl

-- what holds anyway holds of an error
pub err_of : {V E : Type 0} {P : Type 0} (r : Result V E) → P → OnErr r P
err_of (Ok value) holds = tt
err_of (Err error) holds = holds
