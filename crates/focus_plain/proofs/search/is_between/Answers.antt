use Rattle.std.proofs.Common.{None, sym, ◌∙◌, arith}
use Rattle.std.proofs.lemmas.Bool.{false≢true}
use Rattle.std.proofs.lemmas.List.{get_or_read}
use Rattle.focus_plain.proofs.Links.{entry_read, next-read, found_below, found_above, left-falls}
use Rattle.focus_plain.proofs.search.is_between.Goals as goal
use Rattle.focus_plain.proofs.search.is_between.Goals.{then-below, else-below, then-above, else-above}

pub loop-next-init : goal.loop-next-init
loop-next-init c = record {
  below = λ no. absurd (false≢true no);
  above = λ no. absurd (false≢true no);
  next = λ number is. c.requires.linked.latest c.args.to number
      (sym (get_or_read c.args.search.now.latest.items c.args.to c.index-next.result.now c.requires.inside
      c.index-next.ensures None) ∙ is);
}

pub lies_below-below-requires-clause-inside : goal.lies_below-below-requires-clause-inside
lies_below-below-requires-clause-inside c = (c.loop-next.invariant.next c.in-Some.number c.in-Some.is).0

pub lies_above-above-requires-clause-inside : goal.lies_above-above-requires-clause-inside
lies_above-above-requires-clause-inside c = (c.loop-next.invariant.next c.in-Some.number c.in-Some.is).0

pub index-requires : goal.index-requires
index-requires c = omega (
  arith,
  (c.loop-next.invariant.next c.in-Some.number c.in-Some.is).0,
  c.args.search.now.entries.ok.0,
)

pub returns-then-above-2 : goal.returns-then-above-2
returns-then-above-2 c = λ _.
    let at = c.loop-next.invariant.next c.in-Some.number c.in-Some.is in
    record {
      below = elim c.if-below.branch [
        | then-below w ↦ c.loop-next.invariant.below w.if-below.true
        | else-below w ↦ found_below c.args.search.now.entries.items _ c.args.to c.in-Some.number _ at
            (w.lies_below-below.ensures (sym w.below-is ∙ c.if-below-2.true))
      ];
      above = elim c.if-above.branch [
        | then-above w ↦ c.loop-next.invariant.above w.if-above.true
        | else-above w ↦ found_above c.args.search.now.entries.items _ c.args.to c.in-Some.number _ at
            (w.lies_above-above.ensures (sym w.above-is ∙ c.if-above-2.true))
      ];
    }

pub loop-next-smaller : goal.loop-next-smaller
loop-next-smaller c =
    let at = c.loop-next.invariant.next c.in-Some.number c.in-Some.is in
    let entry = entry_read c.args.search.now.entries.items c.in-Some.number c.index.result.now at.0 c.index.ensures in
    left-falls c.index.result.now.next c.loop-next.next c.in-Some.number c.in-Some.is (λ other next.
    (next-read c.args.search.now c.in-Some.number c.index.result.now other c.args.to c.requires.linked at.0 entry at.1
    next).0)

pub loop-next-preserved : goal.loop-next-preserved
loop-next-preserved c =
    let at = c.loop-next.invariant.next c.in-Some.number c.in-Some.is in
    let entry = entry_read c.args.search.now.entries.items c.in-Some.number c.index.result.now at.0 c.index.ensures in
    record {
      below = λ on. elim c.if-below.branch [
        | then-below w ↦ c.loop-next.invariant.below w.if-below.true
        | else-below w ↦ found_below c.args.search.now.entries.items _ c.args.to c.in-Some.number _ at
            (w.lies_below-below.ensures (sym w.below-is ∙ on))
      ];
      above = λ on. elim c.if-above.branch [
        | then-above w ↦ c.loop-next.invariant.above w.if-above.true
        | else-above w ↦ found_above c.args.search.now.entries.items _ c.args.to c.in-Some.number _ at
            (w.lies_above-above.ensures (sym w.above-is ∙ on))
      ];
      next = λ other next.
          let step = next-read c.args.search.now c.in-Some.number c.index.result.now other c.args.to c.requires.linked
          at.0 entry at.1 next in
          (step.1, step.2);
    }
