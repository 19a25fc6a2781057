-- The addresses at which some segments have items of a size, words of 4 bytes or parcels of 2, and the least of them.
use Rattle.std.specs.Prelude.{ℕ, ◌%◌, Bool, ◌&&◌, ◌==◌, List, Option}
use Rattle.std.specs.List.{list_any}
use Rattle.elf_spec.specs.declared.segment.Segment.{Segment}
use Rattle.elf_spec.specs.Word.{has_bytes, IsNext}

-- the segment has an item of this size at the address, which is a multiple of the size
abbrev pub has_item : ℕ → Segment → ℕ → Bool
has_item size segment address = address % size == 0 && has_bytes size address segment

abbrev pub some_has_item : ℕ → List Segment → ℕ → Bool
some_has_item size segments address = list_any (λ segment. has_item size segment address) segments

-- the least item at or above an address in one segment, and in some
abbrev pub IsNextIn : ℕ → Segment → ℕ → Option ℕ → Type 0
IsNextIn size segment from next = IsNext (has_item size segment) from next

abbrev pub IsNextAmong : ℕ → List Segment → ℕ → Option ℕ → Type 0
IsNextAmong size segments from next = IsNext (some_has_item size segments) from next
