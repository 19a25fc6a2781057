use Rattle.std.proofs.Common.{None}
use Rattle.std.proofs.lemmas.List.{take_rest}
use Rattle.std.proofs.lemmas.List.Elements.{All-more}
use Rattle.elf_spec.specs.declared.segment.Segment.{Segment}
use Rattle.elf_image.specs.Among.{IsNextIn}
use Rattle.elf_image.proofs.Next.{next_found, next_nowhere}
use Rattle.elf_image.proofs.image.next_from.Goals as goal

pub loop-segment-preserved : goal.loop-segment-preserved
loop-segment-preserved c =
    let d : Segment = record { at = 0; size = 0; offset = 0 } in
    All-more (λ s. IsNextIn c.args.size s c.args.p None) _ c.loop-segment.segment-index d c.loop-segment-test.true
    c.loop-segment.invariant c.in_default.ensures

pub returns-in-Some : goal.returns-in-Some
returns-in-Some c =
    let d : Segment = record { at = 0; size = 0; offset = 0 } in
    let later = take_rest c.args.segments.now c.ended_by-first.result in
    next_found c.args.size c.args.segments.now _ c.args.p c.ended_by-first.result c.loop-segment.segment-index
    c.in-Some.item d c.requires.some c.requires.rising c.ended_by-first.ensures.ended later c.loop-segment-test.true
    c.loop-segment.invariant c.in-Some.ensures

pub returns : goal.returns
returns c =
    let later = take_rest c.args.segments.now c.ended_by-first.result in
    next_nowhere c.args.size c.args.segments.now _ c.args.p c.ended_by-first.result c.loop-segment.segment-index
    c.requires.some c.ended_by-first.ensures.ended later c.loop-segment-test.false c.loop-segment.invariant
