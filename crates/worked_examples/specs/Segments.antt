-- Files with other program headers, each with the segments that are kept of it or its answer.
use Rattle.std.specs.Prelude.{ℕ, List, [], ◌∷◌, ◌++◌, take, drop, flat_map, Option, Some, None, Result, Ok, Err}
use Rattle.std.specs.Int.{w32, to_le_bytes}
use Rattle.elf_spec.specs.declared.segment.Segment.{Segment}
use Rattle.elf_spec.specs.declared.fault.ElfFault.{ElfFault}
use Rattle.elf_spec.specs.declared.fault.ElfFault.TheVariants.{SegmentOutside, SegmentWraps, SegmentsOverlap, NoText}
use Rattle.elf_spec.specs.Image.{Image}
use Rattle.worked_examples.specs.Headers.{file_header}

-- a loaded program header: its place in the file, its address, its bytes and its flags
abbrev pub loaded : ℕ → ℕ → ℕ → ℕ → List ℕ
loaded offset address size flags =
    flat_map (to_le_bytes w32) (1 ∷ offset ∷ address ∷ address ∷ size ∷ size ∷ flags ∷ 4 ∷ [])

-- two program headers and the eight bytes of two words, from 116 on
abbrev pub file_of_two : List ℕ → List ℕ → List ℕ
file_of_two first second =
    ((take 44 file_header ++ (2 ∷ drop 45 file_header)) ++ (first ++ second))
    ++ flat_map (to_le_bytes w32) (0x00000013 ∷ 0x00100073 ∷ [])

-- a segment's address, its bytes, and its place in the file
abbrev pub segment : ℕ → ℕ → ℕ → Segment
segment address size offset = record { at = address; size = size; offset = offset }

-- what is kept as text
abbrev pub segments_of : Result Image ElfFault → Result (List Segment) ElfFault
segments_of (Ok image) = Ok image.segments
segments_of (Err fault) = Err fault

-- flags 5 are those of text, and 6 those of data
abbrev pub worked_segments : List (List ℕ × Result (List Segment) ElfFault)
worked_segments = (
  file_of_two (loaded 116 0x20000 4 5) (loaded 120 0x10000 4 5),
  Ok (segment 0x10000 4 120 ∷ segment 0x20000 4 116 ∷ []),
)
    ∷ (
      file_of_two (loaded 116 0x10000 6 5) (loaded 122 0x10006 2 5),
      Ok (segment 0x10000 6 116 ∷ segment 0x10006 2 122 ∷ []),
    )
    ∷ (file_of_two (loaded 116 0x10000 4 5) (loaded 120 0x10003 4 5), Err (SegmentsOverlap 1))
    ∷ (file_of_two (loaded 116 0x10000 4 5) (loaded 116 0x10000 4 6), Ok (segment 0x10000 4 116 ∷ []))
    ∷ (file_of_two (loaded 999 0x10000 0 5) (loaded 120 0x10000 4 5), Ok (segment 0x10000 4 120 ∷ []))
    ∷ (file_of_two (loaded 116 0x10000 4 5) (loaded 120 0x10000 5 5), Err (SegmentOutside 1))
    ∷ (file_of_two (loaded 116 0xfffffffc 8 5) (loaded 116 0x10000 8 5), Err (SegmentWraps 0))
    ∷ (
      file_of_two (loaded 116 0xfffffffc 4 5) (loaded 120 0x00000000 4 5),
      Ok (segment 0 4 120 ∷ segment 0xfffffffc 4 116 ∷ []),
    )
    ∷ (file_of_two (loaded 116 0x10000 8 6) (loaded 116 0x10000 0 5), Err NoText)
    ∷ []

-- text up to the highest address and from the lowest on
abbrev pub around_image : Image
around_image = record {
  file = file_of_two (loaded 116 0xfffffffc 4 5) (loaded 120 0x00000000 4 5);
  segments = segment 0 4 120 ∷ segment 0xfffffffc 4 116 ∷ [];
  entry = 0x10000;
}

-- text in two segments that meet within a word
abbrev pub cut_image : Image
cut_image = record {
  file = file_of_two (loaded 116 0x10000 6 5) (loaded 122 0x10006 2 5);
  segments = segment 0x10000 6 116 ∷ segment 0x10006 2 122 ∷ [];
  entry = 0x10000;
}

-- images and addresses, each with the word that lies there
abbrev pub worked_edges : List (Image × ℕ × Option ℕ)
worked_edges =
    (around_image, 0xfffffffc, Some 0x00000013)
    ∷ (around_image, 0, Some 0x00100073)
    ∷ (around_image, 4, None)
    ∷ (cut_image, 0x10000, Some 0x00000013)
    ∷ (cut_image, 0x10004, None)
    ∷ []
