-- The tests of a file in the four groups in which they are made.
use Rattle.std.specs.Prelude.{◌≡◌, ℕ, List, [], ◌∷◌, Option, Some, None, Result, MatchResult}
use Rattle.elf_spec.specs.declared.fault.ElfFault.{ElfFault}
use Rattle.elf_spec.specs.Header.{magic, class, encoding, ident_version, e_type, e_machine, e_version, e_entry, e_phoff, e_phentsize, e_phnum}
use Rattle.elf_spec.specs.Image.{too_short, other_magic, other_class, other_encoding, other_version, other_type, other_machine, other_header_size, too_many_headers, headers_cut, segment_outside, segment_wraps, segments_overlap, no_text}
use Rattle.elf_image.specs.declared.header.Header.{Header}

-- the fields of a file's header
abbrev pub header_of : List ℕ → Header
header_of file = record {
  magic = magic file;
  class = class file;
  encoding = encoding file;
  ident_version = ident_version file;
  e_type = e_type file;
  e_machine = e_machine file;
  e_version = e_version file;
  e_entry = e_entry file;
  e_phoff = e_phoff file;
  e_phentsize = e_phentsize file;
  e_phnum = e_phnum file;
}

-- the tests of what every ELF file has
abbrev pub identity_tests : List ℕ → List (Option ElfFault)
identity_tests file =
    too_short file ∷ other_magic file ∷ other_class file ∷ other_encoding file ∷ other_version file ∷ []

-- the tests of the kind of file and of its machine
abbrev pub machine_tests : List ℕ → List (Option ElfFault)
machine_tests file = other_type file ∷ other_machine file ∷ []

-- the tests of the table of program headers
abbrev pub table_tests : List ℕ → List (Option ElfFault)
table_tests file = other_header_size file ∷ too_many_headers file ∷ headers_cut file ∷ []

-- the tests of the executable segments
abbrev pub segment_tests : List ℕ → List (Option ElfFault)
segment_tests file = segment_outside file ∷ segment_wraps file ∷ segments_overlap file ∷ no_text file ∷ []

-- a result that is the answer of some tests
abbrev pub IsAnswerOf : {T : Type 0} → Option ElfFault → Result T ElfFault → Type 0
IsAnswerOf fault result = MatchResult result (λ _. fault ≡ None) (λ e. fault ≡ Some e)
