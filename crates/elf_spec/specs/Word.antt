-- The words of an image.
use Rattle.std.specs.Prelude.{ℕ, ◌+◌, ◌-◌, ◌%◌, ◌≤◌, Bool, ◌&&◌, Option, Some, None, option_map, find, nat_le, ◌==◌, if◌then◌else◌, is_some, IsTrue, IsFalse}
use Rattle.elf_spec.specs.declared.segment.Segment.{Segment}
use Rattle.elf_spec.specs.Number.{u32_at}
use Rattle.elf_spec.specs.Image.{Image}

-- this many bytes from an address on lie in the segment
abbrev pub has_bytes : ℕ → ℕ → Segment → Bool
has_bytes count address segment = nat_le segment.at address && nat_le (address + count) (segment.at + segment.size)

-- the first segment in which they lie
abbrev pub segment_with : ℕ → Image → ℕ → Option Segment
segment_with count image address = find (has_bytes count address) image.segments

-- where the byte at an address of a segment lies in the file
abbrev pub place_in : Segment → ℕ → ℕ
place_in segment address = segment.offset + (address - segment.at)

-- the word at an address: a multiple of 4 whose four bytes lie in one segment, read as little endian
unfoldable pub word_at : Image → ℕ → Option ℕ
word_at image address =
    if address % 4 == 0
    then option_map (λ segment. u32_at image.file (place_in segment address)) (segment_with 4 image address)
    else None

-- the address has a word
abbrev pub has_word : Image → ℕ → Bool
has_word image address = is_some (word_at image address)

abbrev pub HasWord : Image → ℕ → Type 0
HasWord image address = IsTrue (has_word image address)

-- the least number at or above one that passes a test, or none where none does
abbrev pub IsNext : (ℕ → Bool) → ℕ → Option ℕ → Type 0
IsNext test from None = (n : ℕ) → from ≤ n → IsFalse (test n)
IsNext test from (Some found) =
    IsTrue (test found) × (from ≤ found) × ((n : ℕ) → from ≤ n → IsTrue (test n) → found ≤ n)

-- the least address at or above one that has a word
abbrev pub IsNextWord : Image → ℕ → Option ℕ → Type 0
IsNextWord image from next = IsNext (has_word image) from next
