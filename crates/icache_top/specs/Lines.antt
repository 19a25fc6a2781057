-- The lines of a report as they are sent, one after another.
use Rattle.std.specs.Prelude.{◌≡◌, ◌⊎◌, ℕ, ◌-◌, ◌^◌, Bool, List, ◌++◌, Option, Some, None}
use Rattle.byte_port.specs.declared.Sink.{Ghosts}
use Rattle.flow_spec.specs.Program.{program}
use Rattle.cache_spec.specs.Geometry.{Geometry}
use Rattle.cache_spec.specs.declared.start.Start.{Start}
use Rattle.report_spec.specs.declared.line.Line.{Line}
use Rattle.node_spec.specs.declared.verdict.NodeVerdict.{NodeVerdict}
use Rattle.report_spec.specs.Text.{text_of, line_text}
use Rattle.line_sender.specs.Pending.{IsPending}
use Rattle.node_spec.specs.Plan.{Layout, layout}
use Rattle.report_lines.specs.Findings.{AreFindings}
use Rattle.icache_top.specs.declared.report.Findings.{Findings}
use Rattle.report_lines.specs.Lines.{Stands, AreAllBefore, AreAllFrom}

-- the verdicts are right of an expanded program, for some size of its lines and some entry, and have the ways that its
-- lines need
abbrev pub AreFound : Bool → Layout → List NodeVerdict → Type 0
AreFound contexts layout verdicts =
    (line : ℕ) × (entry : ℕ) × (g : Geometry) × (start : Start)
    × AreFindings (program layout.image layout.isa line entry) g start contexts layout.configurations layout.nodes
    verdicts

-- the lines are all those of the program, and their text was sent
abbrev pub SendsAll : Bool → Layout → List NodeVerdict → (List ℕ → Type 0) → Type 0
SendsAll contexts layout verdicts Sent =
    (lines : List Line) × AreAllFrom (Stands contexts layout verdicts) (Some 0) lines × Sent (text_of lines)

-- the expanded program of what was found
abbrev pub layout_of : Findings → Layout
layout_of found =
    layout found.image.now found.isa found.expanded.now.configurations found.expanded.now.nodes

-- the verdicts of what was found are right, and have those ways
abbrev pub HaveFound : Bool → Findings → Type 0
HaveFound contexts found = AreFound contexts (layout_of found) found.verdicts.now

-- which line stands at a cursor, by what was found
abbrev pub StandsIn : Bool → Findings → ℕ → Option (Line × Option ℕ) → Type 0
StandsIn contexts found = Stands contexts (layout_of found) found.verdicts.now

-- the lines are all those of what was found, and their text was sent
abbrev pub SendsReport : Bool → Findings → (List ℕ → Type 0) → Type 0
SendsReport contexts found = SendsAll contexts (layout_of found) found.verdicts.now

-- since the sink was as it was then, the lines before a cursor were sent, or stand in the buffer
abbrev pub SentBefore : {O : Type 0} → Ghosts O → Bool → Findings → O → O → List ℕ → Option ℕ → Type 0
SentBefore g contexts found begun now buffer cursor =
    (lines : List Line) × AreAllBefore (StandsIn contexts found) cursor lines
    × IsPending g begun now buffer (text_of lines)

-- the line at a cursor and the cursor after it, and what was sent is the buffer and its text; or no line is left
abbrev pub SendsNext : (ℕ → Option (Line × Option ℕ) → Type 0) → ℕ → (List ℕ → Type 0) → List ℕ → Option ℕ → Type 0
SendsNext At from Sent buffer next =
    (At from None × (next ≡ None) × Sent buffer)
    ⊎ ((line : Line) × At from (Some (line, next)) × Sent (buffer ++ line_text line))

-- a prefix of the buffer and the text of a line at the cursor was sent, or nothing
abbrev pub SendsPart : (ℕ → Option (Line × Option ℕ) → Type 0) → ℕ → (List ℕ → Type 0) → List ℕ → Type 0
SendsPart At from Sent buffer =
    Sent buffer ⊎ ((line : Line) × (next : Option ℕ) × At from (Some (line, next)) × Sent (buffer ++ line_text line))

-- what is left to go through
abbrev pub left_from : Option ℕ → ℕ
left_from None = 0
left_from (Some cursor) = 2 ^ 32 - cursor
