use Rattle.std.proofs.Common.{◌≡◌, ◌≤◌, ℕ, List, IsPermutation, Ok, length, map, ap, sym, subst, ◌∙◌, arith}
use Rattle.elf_spec.specs.declared.segment.Segment.{Segment}
use Rattle.elf_spec.specs.Image.{image_of, kept_of, segment_of, executable_headers}
use Rattle.elf_image.specs.Fits.{Fits}
use Rattle.elf_image.proofs.Answered.{fault_of_identity, fault_of_machine, fault_of_table, fault_of_segments, kept, only_fault, no_fault}
use Rattle.elf_image.proofs.Apart.{kept_fits}
use Rattle.elf_image.proofs.Rising.{in_order_moves}
use Rattle.elf_image.proofs.reading.read.Goals as goal
use Rattle.elf_image.proofs.reading.read.Goals.{After-new-file, In_ok-check_segments}

-- the file that is tested has the bytes of the argument
same : (c : After-new-file) → c.new-file.result ≡ c.args.bytes.items
same c = c.new-file.ensures ∙ c.deref.ensures.value

-- a file that passes all tests is kept
is_kept : (c : In_ok-check_segments) → image_of c.args.bytes.items ≡ Ok (kept_of c.new-file.result)
is_kept c =
    sym (ap image_of (c.new-file.ensures ∙ c.deref.ensures.value)) ∙ kept c.new-file.result
    c.in_ok-check_identity.ensures c.in_ok-check_machine.ensures c.in_ok-check_table.ensures
    c.in_ok-check_segments.ensures

pub returns-in_err-check_identity : goal.returns-in_err-check_identity
returns-in_err-check_identity c =
    only_fault _ _ c.from_residual.result (same (goal.at.returns-in_err-check_identity c).After-new-file)
    c.from_residual.ensures.1 (fault_of_identity c.new-file.result _ c.in_err-check_identity.ensures)

pub returns-in_err-check_machine : goal.returns-in_err-check_machine
returns-in_err-check_machine c =
    only_fault _ _ c.from_residual-in_err-check_machine.result
    (same (goal.at.returns-in_err-check_machine c).After-new-file) c.from_residual-in_err-check_machine.ensures.1
    (fault_of_machine c.new-file.result _ c.in_ok-check_identity.ensures c.in_err-check_machine.ensures)

pub returns-in_err-check_table : goal.returns-in_err-check_table
returns-in_err-check_table c =
    only_fault _ _ c.from_residual-in_err-check_table.result
    (same (goal.at.returns-in_err-check_table c).After-new-file) c.from_residual-in_err-check_table.ensures.1
    (fault_of_table c.new-file.result _ c.in_ok-check_identity.ensures c.in_ok-check_machine.ensures
    c.in_err-check_table.ensures)

pub returns-in_err-check_segments : goal.returns-in_err-check_segments
returns-in_err-check_segments c =
    only_fault _ _ c.from_residual-in_err-check_segments.result
    (same (goal.at.returns-in_err-check_segments c).After-new-file) c.from_residual-in_err-check_segments.ensures.1
    (fault_of_segments c.new-file.result _ c.in_ok-check_identity.ensures c.in_ok-check_machine.ensures
    c.in_ok-check_table.ensures c.in_err-check_segments.ensures)

pub invariant_of-result : goal.invariant_of-result
invariant_of-result c =
    let file = c.new-file.result in
    let bytes = same (goal.at.invariant_of-result c).After-new-file in
    let small : length file ≤ 16777216 = omega (arith, ap length bytes, c.requires) in
    let fits = kept_fits file small c.in_ok-check_table.ensures c.in_ok-check_segments.ensures in
    let P : List ℕ → Type 0 = λ bytes. Fits bytes c.in-Ok.segments.items in
    let Q : List Segment → Type 0 = λ segments. Fits file segments in
    subst P bytes (subst Q (sym c.in-Ok.ensures) fits)

pub returns-clause-image : goal.returns-clause-image
returns-clause-image c =
    let bytes = same (goal.at.returns-clause-image c).After-new-file in
    let image = is_kept (goal.at.returns-clause-image c).In_ok-check_segments in
    let entry = c.entry-entry.ensures in
    let segments = c.in-Ok.ensures in
    cc

pub returns-in_default-clause-refused : goal.returns-in_default-clause-refused
returns-in_default-clause-refused c =
    no_fault c.args.bytes.items _ _ (is_kept (goal.at.returns-in_default-clause-refused c).In_ok-check_segments)

pub returns-clause-refused : goal.returns-clause-refused
returns-clause-refused c =
    no_fault c.args.bytes.items _ _ (is_kept (goal.at.returns-clause-refused c).In_ok-check_segments)

pub returns-clause-segments : goal.returns-clause-segments
returns-clause-segments c =
    let bytes = same (goal.at.returns-clause-segments c).After-new-file in
    let headers = executable_headers c.new-file.result in
    let P : List ℕ → Type 0 = λ bytes. IsPermutation (map segment_of (executable_headers bytes))
    c.in-Ok.segments.items in
    let Q : List Segment → Type 0 = λ segments. IsPermutation (map segment_of headers) segments in
    subst P bytes (subst Q (sym c.in-Ok.ensures) (in_order_moves (map segment_of headers)))
