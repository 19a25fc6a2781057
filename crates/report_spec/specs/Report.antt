-- Which texts are reports: by address, or with a line for each configuration.
use Rattle.std.specs.Prelude.{◌≡◌, ℕ, zero, suc, ◌+◌, ◌-◌, ◌/◌, ◌↔◌, Bool, MatchBool, List, [], ◌∷◌, length, flat_map, Contains, option_map}
use Rattle.std.specs.List.{AllByRecursion}
use Rattle.std.specs.List.Sorted.{IsStrictlyIncreasing}
use Rattle.cache_spec.specs.Geometry.{Geometry}
use Rattle.cache_spec.specs.declared.start.Start.{Start}
use Rattle.transition_spec.specs.Layer.{all_of}
use Rattle.flow_spec.specs.Program.{Program}
use Rattle.flow_spec.specs.Configuration.{Configuration, fetched}
use Rattle.flow_spec.specs.Successors.{successors, newest}
use Rattle.flow_spec.specs.Acceptance.{IsAccepted}
use Rattle.report_spec.specs.declared.line.Line.{Line}
use Rattle.report_spec.specs.declared.line.Line.TheVariants.{At, Context, Unreachable}
use Rattle.report_spec.specs.Text.{text_of}
use Rattle.report_spec.specs.Right.{IsRight}
use Rattle.report_spec.specs.Inner.{IsAt, IsUnreached, HasLine, step_of}

-- `count` addresses, from one on, each `step` bytes above the one before
abbrev pub addresses_from : ℕ → ℕ → ℕ → List ℕ
addresses_from step address zero = []
addresses_from step address (suc count) = address ∷ addresses_from step (address + step) count

-- the addresses of a range from its first to its last
abbrev pub range_addresses : ℕ → ℕ → ℕ → List ℕ
range_addresses step first last = addresses_from step first ((last - first) / step + 1)

-- the addresses that a line by address speaks of, where those of a text stand `step` bytes apart
abbrev pub addresses_of : ℕ → Line → List ℕ
addresses_of step (At at verdict) = at ∷ []
addresses_of step (Unreachable first last) = range_addresses step first last
addresses_of step (Context node at depth back verdict) = []

-- what a line by address says is so; the last address of a range is one of its addresses
abbrev pub IsRightLine : Program → Geometry → Start → Line → Type 0
IsRightLine program g start (At at verdict) = IsRight program g start (IsAt at) verdict
IsRightLine program g start (Unreachable first last) =
    Contains (range_addresses (step_of program.isa) first last) last
    × AllByRecursion (IsUnreached program) (range_addresses (step_of program.isa) first last)
IsRightLine program g start (Context node at depth back verdict) = ⊥

-- no range could be joined with the one after it
abbrev pub AreGreatest : ℕ → List Line → Type 0
AreGreatest step (Unreachable first last ∷ Unreachable next end ∷ lines) =
    (next ≡ last + step → ⊥) × AreGreatest step (Unreachable next end ∷ lines)
AreGreatest step (Unreachable first last ∷ At at verdict ∷ lines) = AreGreatest step (At at verdict ∷ lines)
AreGreatest step (Unreachable first last ∷ Context node at depth back verdict ∷ lines) = AreGreatest step lines
AreGreatest step (Unreachable first last ∷ []) = Unit {0}
AreGreatest step (At at verdict ∷ lines) = AreGreatest step lines
AreGreatest step (Context node at depth back verdict ∷ lines) = AreGreatest step lines
AreGreatest step [] = Unit {0}

-- each address of the text that isn't inner stands in one line, in rising order, each line is right, and the ranges are
-- the greatest
pub record AreByAddress (program : Program) (g : Geometry) (start : Start) (lines : List Line) : Type 0 where
  pub rising : IsStrictlyIncreasing (flat_map (addresses_of (step_of program.isa)) lines)
  pub all : (address : ℕ)
      → Contains (flat_map (addresses_of (step_of program.isa)) lines) address ↔ HasLine program address
  pub right : AllByRecursion (IsRightLine program g start) lines
  pub greatest : AreGreatest (step_of program.isa) lines

-- the line of the configuration with a number: its verdict is that of this configuration alone
abbrev pub IsContextLine : Program → Geometry → Start → ℕ → Configuration → Line → Type 0
IsContextLine program g start number c (Context node at depth back verdict) =
    (node ≡ number) × (at ≡ fetched c) × (depth ≡ length c.frames)
    × (back ≡ option_map (λ frame. frame.back) (newest c.frames))
    × IsRight program g start (λ d. d ≡ c) verdict
IsContextLine program g start number c (At at verdict) = ⊥
IsContextLine program g start number c (Unreachable first last) = ⊥

-- one line for each configuration, in order of number
abbrev pub AreContextLines : Program → Geometry → Start → ℕ → List Configuration → List Line → Type 0
AreContextLines program g start number [] [] = Unit {0}
AreContextLines program g start number (c ∷ later) (line ∷ lines) =
    IsContextLine program g start number c line × AreContextLines program g start (number + 1) later lines
AreContextLines program g start number [] (line ∷ lines) = ⊥
AreContextLines program g start number (c ∷ later) [] = ⊥

-- the lines of all configurations of the program
abbrev pub AreByContext : Program → Geometry → Start → List Line → Type 0
AreByContext program g start lines =
    (layers : List (List Configuration)) × IsAccepted (successors program) program layers
    × AreContextLines program g start 0 (all_of layers) lines

-- the text is a report of the program that begins at the entry, in a cache that starts so
abbrev pub IsReport : Program → Geometry → Start → Bool → List ℕ → Type 0
IsReport program g start contexts text =
    (lines : List Line) × (text ≡ text_of lines) × MatchBool contexts (AreByContext program g start lines)
    (AreByAddress program g start lines)
