-- The executable segments of a file, taken from the last program header to the first.
use Rattle.std.proofs.Common.{◌≡◌, ℕ, ◌+◌, ◌-◌, ◌<◌, ◌≤◌, suc, Bool, true, false, List, ◌∷◌, map, refl, ap, ◌∙◌, cond, arith}
use Rattle.std.specs.List.{filter, range_with_len}
use Rattle.std.proofs.lemmas.Bool.{cond-true, cond-false}
use Rattle.elf_spec.specs.declared.program_header.ProgramHeader.{ProgramHeader}
use Rattle.elf_spec.specs.declared.segment.Segment.{Segment}
use Rattle.elf_spec.specs.Header.{header, is_executable}
use Rattle.elf_spec.specs.Image.{segment_of, placed, in_order}

-- the executable segments of `count` program headers from an index on
abbrev pub segments_from : List ℕ → ℕ → ℕ → List Segment
segments_from file index count = map segment_of (filter is_executable (map (header file) (range_with_len index count)))

-- a header is kept or passed over
map_kept : (b : Bool) (h : ProgramHeader) (rest : List ProgramHeader)
    → map segment_of (cond b (h ∷ rest) rest) ≡ cond b (segment_of h ∷ map segment_of rest) (map segment_of rest)
map_kept true h rest = refl
map_kept false h rest = refl

-- one header more before the others
segments_next : (file : List ℕ) (index count : ℕ)
    → segments_from file index (suc count) ≡ cond (is_executable (header file index))
    (segment_of (header file index) ∷ segments_from file (index + 1) count) (segments_from file (index + 1) count)
segments_next file index count = map_kept (is_executable (header file index)) (header file index) _

-- a step down, from an index to the one before it
segments_back : (file : List ℕ) (index count : ℕ) → 0 < index → index ≤ count
    → segments_from file (index - 1) (count - (index - 1))
    ≡ cond (is_executable (header file (index - 1))) (segment_of (header file (index - 1)) ∷ segments_from file index
    (count - index)) (segments_from file index (count - index))
segments_back file index count some within =
    let here = header file (index - 1) in
    let long : count - (index - 1) ≡ suc (count - index) = omega arith in
    let back : index - 1 + 1 ≡ index = omega arith in
    let rest = λ (from : ℕ). segments_from file from (count - index) in
    ap (λ n. segments_from file (index - 1) n) long ∙ segments_next file (index - 1) (count - index)
    ∙ ap (λ n. cond (is_executable here) (segment_of here ∷ rest n) (rest n)) back

-- a step down to an executable header puts its segment in its place
pub segments_more : (file : List ℕ) (index count : ℕ) → 0 < index → index ≤ count
    → is_executable (header file (index - 1)) ≡ true
    → in_order (segments_from file (index - 1) (count - (index - 1)))
    ≡ placed (segment_of (header file (index - 1))) (in_order (segments_from file index (count - index)))
segments_more file index count some within is =
    ap in_order (segments_back file index count some within ∙ cond-true _ _ _ is)

-- a step down to any other header changes nothing
pub segments_same : (file : List ℕ) (index count : ℕ) → 0 < index → index ≤ count
    → is_executable (header file (index - 1)) ≡ false
    → in_order (segments_from file (index - 1) (count - (index - 1)))
    ≡ in_order (segments_from file index (count - index))
segments_same file index count some within is =
    ap in_order (segments_back file index count some within ∙ cond-false _ _ _ is)
