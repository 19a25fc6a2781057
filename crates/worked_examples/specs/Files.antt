-- A file of two words, its image, and changes of it that are refused.
use Rattle.std.specs.Prelude.{ℕ, ◌+◌, List, [], ◌∷◌, ◌++◌, take, drop, Option, Some, None}
use Rattle.elf_spec.specs.declared.fault.ElfFault.{ElfFault}
use Rattle.elf_spec.specs.declared.fault.ElfFault.TheVariants.{Truncated, NotClass32, NotRiscv, SegmentOutside, NoText}
use Rattle.elf_spec.specs.Image.{Image}

-- a nop and a stop, byte by byte
abbrev pub two_words : List ℕ
two_words =
    0x7f ∷ 0x45 ∷ 0x4c ∷ 0x46 ∷ 1 ∷ 1 ∷ 1 ∷ 0 ∷ 0 ∷ 0 ∷ 0 ∷ 0 ∷ 0 ∷ 0 ∷ 0 ∷ 0
    ∷ 2 ∷ 0 ∷ 243 ∷ 0 ∷ 1 ∷ 0 ∷ 0 ∷ 0 ∷ 0 ∷ 0 ∷ 1 ∷ 0 ∷ 52 ∷ 0 ∷ 0 ∷ 0
    ∷ 0 ∷ 0 ∷ 0 ∷ 0 ∷ 0 ∷ 0 ∷ 0 ∷ 0 ∷ 52 ∷ 0 ∷ 32 ∷ 0 ∷ 1 ∷ 0 ∷ 0 ∷ 0
    ∷ 0 ∷ 0 ∷ 0 ∷ 0
    ∷ 1 ∷ 0 ∷ 0 ∷ 0 ∷ 84 ∷ 0 ∷ 0 ∷ 0 ∷ 0 ∷ 0 ∷ 1 ∷ 0 ∷ 0 ∷ 0 ∷ 1 ∷ 0
    ∷ 8 ∷ 0 ∷ 0 ∷ 0 ∷ 8 ∷ 0 ∷ 0 ∷ 0 ∷ 5 ∷ 0 ∷ 0 ∷ 0 ∷ 4 ∷ 0 ∷ 0 ∷ 0
    ∷ 0x13 ∷ 0x00 ∷ 0x00 ∷ 0x00 ∷ 0x73 ∷ 0x00 ∷ 0x10 ∷ 0x00 ∷ []

-- its image
abbrev pub two_words_image : Image
two_words_image = record {
  file = two_words;
  segments = record { at = 0x10000; size = 8; offset = 84 } ∷ [];
  entry = 0x10000;
}

-- addresses, each with the word that lies there
abbrev pub worked_places : List (ℕ × Option ℕ)
worked_places =
    (0x10000, Some 0x00000013)
    ∷ (0x10004, Some 0x00100073)
    ∷ (0x10008, None)
    ∷ (0x10002, None)
    ∷ (0x0fffc, None)
    ∷ (0, None)
    ∷ []

-- the file with another byte at a place
abbrev pub changed : ℕ → ℕ → List ℕ → List ℕ
changed place byte file = take place file ++ (byte ∷ drop (place + 1) file)

-- class 64
abbrev pub wide : List ℕ → List ℕ
wide file = changed 4 2 file

-- machine 62, x86-64
abbrev pub other_machine : List ℕ → List ℕ
other_machine file = changed 18 62 file

-- files that aren't read, each with its answer
abbrev pub worked_refusals : List (List ℕ × ElfFault)
worked_refusals =
    ([], Truncated 52 0)
    ∷ (take 52 two_words, Truncated 84 52)
    ∷ (take 91 two_words, SegmentOutside 0)
    ∷ (wide (other_machine two_words), NotClass32)
    ∷ (other_machine two_words, NotRiscv 62)
    ∷ (changed 76 6 two_words, NoText)
    ∷ []
