-- The headers of a file of words at 0x10000, which is also the entry.
use Rattle.std.specs.Prelude.{ℕ, List, [], ◌∷◌, ◌++◌}
use Rattle.std.specs.Int.{w32, to_le_bytes}

-- the ELF header
abbrev pub file_header : List ℕ
file_header =
    0x7f ∷ 0x45 ∷ 0x4c ∷ 0x46 ∷ 1 ∷ 1 ∷ 1 ∷ 0 ∷ 0 ∷ 0 ∷ 0 ∷ 0 ∷ 0 ∷ 0 ∷ 0 ∷ 0
    ∷ 2 ∷ 0 ∷ 0xf3 ∷ 0 ∷ 1 ∷ 0 ∷ 0 ∷ 0 ∷ 0 ∷ 0 ∷ 1 ∷ 0 ∷ 0x34 ∷ 0 ∷ 0 ∷ 0
    ∷ 0 ∷ 0 ∷ 0 ∷ 0 ∷ 0 ∷ 0 ∷ 0 ∷ 0 ∷ 0x34 ∷ 0 ∷ 0x20 ∷ 0 ∷ 1 ∷ 0 ∷ 0 ∷ 0
    ∷ 0 ∷ 0 ∷ 0 ∷ 0 ∷ []

-- p_type, p_offset, p_vaddr and p_paddr
abbrev pub placing : List ℕ
placing = 1 ∷ 0 ∷ 0 ∷ 0 ∷ 0x54 ∷ 0 ∷ 0 ∷ 0 ∷ 0 ∷ 0 ∷ 1 ∷ 0 ∷ 0 ∷ 0 ∷ 1 ∷ 0 ∷ []

-- p_flags, readable and executable, and p_align
abbrev pub flags_and_align : List ℕ
flags_and_align = 5 ∷ 0 ∷ 0 ∷ 0 ∷ 4 ∷ 0 ∷ 0 ∷ 0 ∷ []

-- what stands before `size` bytes of words; p_filesz and p_memsz are both that number
abbrev pub head_for : ℕ → List ℕ
head_for size = file_header ++ (placing ++ (to_le_bytes w32 size ++ (to_le_bytes w32 size ++ flags_and_align)))
