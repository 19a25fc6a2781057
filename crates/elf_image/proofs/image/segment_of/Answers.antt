use Rattle.std.proofs.Common.{◌≡◌, ◌-◌, false, get_or, sym, subst, arith}
use Rattle.std.proofs.lemmas.List.{get_or_default}
use Rattle.elf_spec.specs.declared.segment.Segment.{Segment}
use Rattle.elf_spec.specs.Word.{has_bytes}
use Rattle.elf_image.proofs.Found.{find_none, found_last, found_nowhere, bytes_before}
use Rattle.elf_image.proofs.image.segment_of.Goals as goal

pub returns-then-begun-eq0-clause-first : goal.returns-then-begun-eq0-clause-first
returns-then-begun-eq0-clause-first c =
    sym (find_none (has_bytes c.args.size c.args.p) c.args.segments.now
    (λ k d h. bytes_before c.args.size (get_or c.args.segments.now k d) c.args.p
    (c.begun_by-begun.ensures.above k d (omega arith) h)))

pub returns-then-covers-clause-first : goal.returns-then-covers-clause-first
returns-then-covers-clause-first c =
    let last = c.begun_by-begun.result - 1 in
    sym (found_last c.args.size c.args.segments.now c.args.p last _ c.requires.some c.requires.rising (omega arith)
    (c.begun_by-begun.ensures.begun last _ (omega arith) (omega arith)) (sym c.if-covers.ensures))

pub returns-else-covers-clause-first : goal.returns-else-covers-clause-first
returns-else-covers-clause-first c =
    let last = c.begun_by-begun.result - 1 in
    let segments = c.args.segments.now in
    let P : Segment → Type 0 = λ s. has_bytes c.args.size c.args.p s ≡ false in
    sym (found_nowhere c.args.size segments c.args.p last c.requires.some c.requires.rising (omega arith)
    (λ d. c.begun_by-begun.ensures.begun last d (omega arith) (omega arith))
    (λ d. subst P (get_or_default segments last _ d (omega arith)) (sym c.if-covers.ensures))
    (λ k d above inside. c.begun_by-begun.ensures.above k d (omega arith) inside))
