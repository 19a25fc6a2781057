use Rattle.std.proofs.Common.{arith, ◌+◌, take, Ok, subst}
use Rattle.std.proofs.lemmas.Grind.{common_steps}
use Rattle.byte_port.specs.Stream.{TakesAtMost}
use Rattle.byte_port.specs.Calls.{EndsAtFault, MovesSome}
use Rattle.byte_port.proofs.Bytes.{TakesAtMost-two}
use Rattle.byte_port.proofs.Moves.{MovesSome-none, MovesSome-more}
use Rattle.byte_port.proofs.streams.read_all.Goals as goal

pub returns-in_err-extend_from_slice-clause-part : goal.returns-in_err-extend_from_slice-clause-part
returns-in_err-extend_from_slice-clause-part g c =
    let taken : TakesAtMost (g.S.Source.left c.args.source.now) (g.S.Source.left c.read.new.self) (c.args.limit + 1)
    = TakesAtMost-two _ _ _ c.loop-piece.bytes.items (take c.in_ok-count.count c.read.new.buf) _
    c.loop-piece.invariant.taken c.in_ok-count.ensures.bytes.0
    (grind (arith, common_steps, c.in_ok-count.ensures.bound)) in
    grind (arith, common_steps, taken)

-- the read that failed is the last one
pub returns-in_err-count-clause-reads : goal.returns-in_err-count-clause-reads
returns-in_err-count-clause-reads g c =
    let ends : EndsAtFault g.S.Source.reads g.S.Source.left g.S.Source.faults c.args.source.now c.read.new.self = (
      c.loop-piece.source,
      c.loop-piece.invariant.reads,
      (c.in_err-count.field-0.0, c.in_err-count.ensures.step),
      c.loop-piece.invariant.faults,
      c.in_err-count.ensures.bytes,
    ) in
    grind (arith, common_steps, ends)

-- the read that gave nothing is the last one
pub returns-then-count-eq0-clause-reads : goal.returns-then-count-eq0-clause-reads
returns-then-count-eq0-clause-reads g c = (
  c.loop-piece.source,
  c.loop-piece.invariant.reads,
  subst (λ n. g.S.Source.reads c.loop-piece.source (Ok n) c.read.new.self) c.if-count-eq0.true
      c.in_ok-count.ensures.step,
)

-- the read whose bytes there was no memory for gave some
pub returns-in_err-extend_from_slice-clause-reads : goal.returns-in_err-extend_from_slice-clause-reads
returns-in_err-extend_from_slice-clause-reads g c =
    let more : MovesSome g.S.Source.reads c.args.source.now c.read.new.self =
    MovesSome-more g.S.Source.reads c.args.source.now c.loop-piece.source c.read.new.self c.in_ok-count.count
    c.loop-piece.invariant.reads
    (omega (arith, c.if-count-eq0.false)) c.in_ok-count.ensures.step in
    grind (arith, common_steps, more)

pub loop-piece-preserved : goal.loop-piece-preserved
loop-piece-preserved g c =
    let more : MovesSome g.S.Source.reads c.args.source.now c.read.new.self =
    MovesSome-more g.S.Source.reads c.args.source.now c.loop-piece.source c.read.new.self c.in_ok-count.count
    c.loop-piece.invariant.reads
    (omega (arith, c.if-count-eq0.false)) c.in_ok-count.ensures.step in
    grind (arith, common_steps, more)
