-- The headers of an ELF32 file, after the ELF specification's Elf32_Ehdr and Elf32_Phdr.
use Rattle.std.specs.Prelude.{ℕ, ◌+◌, ◌*◌, ◌%◌, Bool, not, ◌&&◌, List, Option, find, nat_lt, ◌==◌, slice_index}
use Rattle.std.specs.List.{list_any, range_with_len}
use Rattle.elf_spec.specs.declared.program_header.ProgramHeader.{ProgramHeader}
use Rattle.elf_spec.specs.Number.{u16_at, u32_at}

abbrev pub magic : List ℕ → ℕ
magic file = u32_at file 0

abbrev pub class : List ℕ → ℕ
class file = slice_index file 4

abbrev pub encoding : List ℕ → ℕ
encoding file = slice_index file 5

abbrev pub ident_version : List ℕ → ℕ
ident_version file = slice_index file 6

abbrev pub e_type : List ℕ → ℕ
e_type file = u16_at file 16

abbrev pub e_machine : List ℕ → ℕ
e_machine file = u16_at file 18

abbrev pub e_version : List ℕ → ℕ
e_version file = u32_at file 20

abbrev pub e_entry : List ℕ → ℕ
e_entry file = u32_at file 24

abbrev pub e_phoff : List ℕ → ℕ
e_phoff file = u32_at file 28

abbrev pub e_phentsize : List ℕ → ℕ
e_phentsize file = u16_at file 42

abbrev pub e_phnum : List ℕ → ℕ
e_phnum file = u16_at file 44

-- the place right after the program headers
abbrev pub headers_end : List ℕ → ℕ
headers_end file = e_phoff file + 32 * e_phnum file

abbrev pub header_at : List ℕ → ℕ → ProgramHeader
header_at file place = record {
  p_type = u32_at file place;
  p_offset = u32_at file (place + 4);
  p_vaddr = u32_at file (place + 8);
  p_filesz = u32_at file (place + 16);
  p_flags = u32_at file (place + 24);
}

-- the program header with an index
unfoldable pub header : List ℕ → ℕ → ProgramHeader
header file index = header_at file (e_phoff file + 32 * index)

-- loaded (PT_LOAD), executable (PF_X), and with bytes in the file
abbrev pub is_executable : ProgramHeader → Bool
is_executable h = h.p_type == 1 && (h.p_flags % 2 == 1 && not (h.p_filesz == 0))

-- the two have an address in common
abbrev pub meets : ProgramHeader → ProgramHeader → Bool
meets h other = nat_lt h.p_vaddr (other.p_vaddr + other.p_filesz) && nat_lt other.p_vaddr (h.p_vaddr + h.p_filesz)

-- the header has an address in common with an executable one before it
abbrev pub meets_earlier : List ℕ → ℕ → Bool
meets_earlier file index =
    list_any (λ i. is_executable (header file i) && meets (header file index) (header file i)) (range_with_len 0 index)

-- the index of the first executable header that a test holds of
abbrev pub first_executable : List ℕ → (ℕ → Bool) → Option ℕ
first_executable file test = find (λ i. is_executable (header file i) && test i) (range_with_len 0 (e_phnum file))
