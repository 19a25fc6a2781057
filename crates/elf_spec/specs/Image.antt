-- The image of a file: fourteen tests, made in order, and what is kept of a file that passes them all.
-- The tests are over fields of the ELF specification; their order, and the limit of 64, are this project's own.
use Rattle.std.specs.Prelude.{ℕ, ◌+◌, ◌^◌, Bool, true, not, ◌&&◌, List, [], ◌∷◌, length, map, filter, Option, Some, None, Result, Ok, Err, option_map, nat_lt, nat_le, ◌==◌, if◌then◌else◌, is_some}
use Rattle.std.specs.List.{range_with_len}
use Rattle.elf_spec.specs.declared.fault.ElfFault.{ElfFault}
use Rattle.elf_spec.specs.declared.fault.ElfFault.TheVariants.{Truncated, NotElf, NotClass32, NotLittle, BadVersion, NotExecutable, NotRiscv, BadEntrySize, TooManySegments, SegmentOutside, SegmentWraps, SegmentsOverlap, NoText}
use Rattle.elf_spec.specs.declared.program_header.ProgramHeader.{ProgramHeader}
use Rattle.elf_spec.specs.declared.segment.Segment.{Segment}
use Rattle.elf_spec.specs.Header.{magic, class, encoding, ident_version, e_type, e_machine, e_version, e_entry, e_phentsize, e_phnum, headers_end, header, is_executable, meets_earlier, first_executable}

-- a test that fails where something holds
abbrev pub fails_where : Bool → ElfFault → Option ElfFault
fails_where holds fault = if holds then Some fault else None

abbrev pub too_short : List ℕ → Option ElfFault
too_short file = fails_where (nat_lt (length file) 52) (Truncated 52 (length file))

abbrev pub other_magic : List ℕ → Option ElfFault
other_magic file = fails_where (not (magic file == 0x464c457f)) NotElf

abbrev pub other_class : List ℕ → Option ElfFault
other_class file = fails_where (not (class file == 1)) NotClass32

abbrev pub other_encoding : List ℕ → Option ElfFault
other_encoding file = fails_where (not (encoding file == 1)) NotLittle

abbrev pub other_version : List ℕ → Option ElfFault
other_version file = fails_where (not (ident_version file == 1 && e_version file == 1)) BadVersion

abbrev pub other_type : List ℕ → Option ElfFault
other_type file = fails_where (not (e_type file == 2)) (NotExecutable (e_type file))

abbrev pub other_machine : List ℕ → Option ElfFault
other_machine file = fails_where (not (e_machine file == 243)) (NotRiscv (e_machine file))

abbrev pub other_header_size : List ℕ → Option ElfFault
other_header_size file =
    fails_where (not (e_phnum file == 0) && not (e_phentsize file == 32)) (BadEntrySize (e_phentsize file))

abbrev pub too_many_headers : List ℕ → Option ElfFault
too_many_headers file = fails_where (nat_lt 64 (e_phnum file)) (TooManySegments (e_phnum file))

abbrev pub headers_cut : List ℕ → Option ElfFault
headers_cut file =
    fails_where (not (e_phnum file == 0) && nat_lt (length file) (headers_end file))
    (Truncated (headers_end file) (length file))

abbrev pub bytes_outside : List ℕ → ℕ → Bool
bytes_outside file i = nat_lt (length file) ((header file i).p_offset + (header file i).p_filesz)

abbrev pub segment_outside : List ℕ → Option ElfFault
segment_outside file = option_map SegmentOutside (first_executable file (bytes_outside file))

abbrev pub addresses_wrap : List ℕ → ℕ → Bool
addresses_wrap file i = nat_lt (2 ^ 32) ((header file i).p_vaddr + (header file i).p_filesz)

abbrev pub segment_wraps : List ℕ → Option ElfFault
segment_wraps file = option_map SegmentWraps (first_executable file (addresses_wrap file))

abbrev pub segments_overlap : List ℕ → Option ElfFault
segments_overlap file = option_map SegmentsOverlap (first_executable file (meets_earlier file))

abbrev pub no_text : List ℕ → Option ElfFault
no_text file = fails_where (not (is_some (first_executable file (λ i. true)))) NoText

abbrev pub tests : List ℕ → List (Option ElfFault)
tests file =
    too_short file
    ∷ other_magic file
    ∷ other_class file
    ∷ other_encoding file
    ∷ other_version file
    ∷ other_type file
    ∷ other_machine file
    ∷ other_header_size file
    ∷ too_many_headers file
    ∷ headers_cut file
    ∷ segment_outside file
    ∷ segment_wraps file
    ∷ segments_overlap file
    ∷ no_text file
    ∷ []

-- the answer of the first test that fails
abbrev pub first_fault : List (Option ElfFault) → Option ElfFault
first_fault [] = None
first_fault (Some fault ∷ later) = Some fault
first_fault (None ∷ later) = first_fault later

abbrev pub segment_of : ProgramHeader → Segment
segment_of h = record { at = h.p_vaddr; size = h.p_filesz; offset = h.p_offset }

-- a segment put in its place among others in rising order of address
abbrev pub placed : Segment → List Segment → List Segment
placed segment [] = segment ∷ []
placed segment (next ∷ later) =
    if nat_le segment.at next.at then segment ∷ next ∷ later else next ∷ placed segment later

-- segments in rising order of address
abbrev pub in_order : List Segment → List Segment
in_order [] = []
in_order (segment ∷ later) = placed segment (in_order later)

-- what is kept of a file: its bytes, its executable segments in rising order of address, and its entry
pub record Image : Type 0 where
  pub file : List ℕ
  pub segments : List Segment
  pub entry : ℕ

abbrev pub executable_headers : List ℕ → List ProgramHeader
executable_headers file = filter is_executable (map (header file) (range_with_len 0 (e_phnum file)))

abbrev pub kept_of : List ℕ → Image
kept_of file = record {
  file = file;
  segments = in_order (map segment_of (executable_headers file));
  entry = e_entry file;
}

abbrev pub answer_of : List ℕ → Option ElfFault → Result Image ElfFault
answer_of file None = Ok (kept_of file)
answer_of file (Some fault) = Err fault

-- the image of a file, or the answer of the first test that fails
unfoldable pub image_of : List ℕ → Result Image ElfFault
image_of file = answer_of file (first_fault (tests file))
