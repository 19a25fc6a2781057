-- What each image keeps: its segments rise, none is empty, and all lie in the file and below the end of the addresses.
use Rattle.std.specs.Prelude.{ℕ, ◌+◌, ◌^◌, ◌<◌, ◌≤◌, List, length, All, AllPairs}
use Rattle.elf_spec.specs.declared.segment.Segment.{Segment}

-- the first ends at or before the second begins
abbrev pub EndsBefore : Segment → Segment → Type 0
EndsBefore segment next = segment.at + segment.size ≤ next.at

pub record SegmentFits (size : ℕ) (segment : Segment) : Type 0 where
  pub some : 0 < segment.size
  pub inside : segment.offset + segment.size ≤ size
  pub below : segment.at + segment.size ≤ 2 ^ 32

pub record Fits (file : List ℕ) (segments : List Segment) : Type 0 where
  pub each : All (SegmentFits (length file)) segments
  pub rising : AllPairs EndsBefore segments
  pub few : length segments ≤ 64
  pub small : length file ≤ 16777216
