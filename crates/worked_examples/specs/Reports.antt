-- The layers and the reports of the loop with a word after, programs that are refused, a report where the cache may
-- start with anything, and reports of programs with compressed instructions.
use Rattle.std.specs.Prelude.{ℕ, List, [], ◌∷◌, ◌++◌, None, codes}
use Rattle.flow_spec.specs.declared.fault.FlowFault.{FlowFault}
use Rattle.riscv_spec.specs.declared.parcel.Isa.TheVariants.{Rv32i}
use Rattle.flow_spec.specs.Program.{Program, program}
use Rattle.flow_spec.specs.Acceptance.{IsAccepted, IsRefused}
use Rattle.flow_spec.specs.Configuration.{Configuration}
use Rattle.flow_spec.specs.Successors.{successors}
use Rattle.report_spec.specs.declared.line.Line.{Line}
use Rattle.report_spec.specs.declared.line.Line.TheVariants.{At, Context, Unreachable}
use Rattle.report_spec.specs.declared.line.Verdict.TheVariants.{AlwaysHit, AlwaysMiss, Unknown}
use Rattle.worked_examples.specs.Programs.{program_of, at}
use Rattle.worked_examples.specs.Texts.{way}

-- the program is accepted with these layers
abbrev pub IsAcceptedIn : Program → List (List Configuration) → Type 0
IsAcceptedIn program layers = IsAccepted (successors program) program layers

-- the program of these words is refused when it begins at the entry
abbrev pub IsRefusedFrom : ℕ → List ℕ → FlowFault → Type 0
IsRefusedFrom entry words fault =
    let from = program (program_of words) Rv32i 32 entry in
    IsRefused (successors from) from fault

-- each word of the loop is a layer
abbrev pub loop_layers : List (List Configuration)
loop_layers = (at 0x10000 ∷ []) ∷ (at 0x10004 ∷ []) ∷ (at 0x10008 ∷ []) ∷ []

-- a branch both of whose successors are illegal
abbrev pub two_faults : List ℕ
two_faults = 0x00000463 ∷ 0xffffffff ∷ 0xffffffff ∷ []

-- by address
abbrev pub loop_lines : List Line
loop_lines =
    At 0x10000 (Unknown (way 3 (codes "t")) (way 1 []))
    ∷ At 0x10004 AlwaysHit
    ∷ At 0x10008 AlwaysHit
    ∷ Unreachable 0x1000c 0x1000c
    ∷ []

-- their text
abbrev pub loop_report : List ℕ
loop_report =
    codes "0x00010000 unknown hit 3 t miss 1 -\n"
    ++ (codes "0x00010004 always-hit\n"
    ++ (codes "0x00010008 always-hit\n"
    ++ codes "0x0001000c-0x0001000c unreachable\n"))

-- by configuration
abbrev pub loop_context_lines : List Line
loop_context_lines =
    Context 0 0x10000 0 None (Unknown (way 3 (codes "t")) (way 1 []))
    ∷ Context 1 0x10004 0 None AlwaysHit
    ∷ Context 2 0x10008 0 None AlwaysHit
    ∷ []

-- their text
abbrev pub loop_context_report : List ℕ
loop_context_report =
    codes "#0 0x00010000 depth 0 back none unknown hit 3 t miss 1 -\n"
    ++ (codes "#1 0x00010004 depth 0 back none always-hit\n"
    ++ codes "#2 0x00010008 depth 0 back none always-hit\n")

-- a word and a stop by address, where the cache may start with anything: the one path to the word can hit and can miss
abbrev pub stop_lines : List Line
stop_lines = At 0x10000 (Unknown (way 1 []) (way 1 [])) ∷ At 0x10004 AlwaysHit ∷ []

-- their text
abbrev pub stop_report : List ℕ
stop_report = codes "0x00010000 unknown hit 1 - miss 1 -\n" ++ codes "0x00010004 always-hit\n"

-- the long instruction between two parcels, in a line of 16 bytes: its middle has no line
abbrev pub whole_lines : List Line
whole_lines = At 0x10000 AlwaysMiss ∷ At 0x10002 AlwaysHit ∷ At 0x10006 AlwaysHit ∷ []

-- their text
abbrev pub whole_report : List ℕ
whole_report =
    codes "0x00010000 always-miss\n" ++ (codes "0x00010002 always-hit\n" ++ codes "0x00010006 always-hit\n")

-- the same in lines of 4 bytes, one of which begins in its middle
abbrev pub parted_lines : List Line
parted_lines =
    At 0x10000 AlwaysMiss ∷ At 0x10002 AlwaysHit ∷ At 0x10004 AlwaysMiss ∷ At 0x10006 AlwaysHit ∷ []

-- their text
abbrev pub parted_report : List ℕ
parted_report =
    codes "0x00010000 always-miss\n"
    ++ (codes "0x00010002 always-hit\n"
    ++ (codes "0x00010004 always-miss\n"
    ++ codes "0x00010006 always-hit\n"))

-- the call over a stop: what nothing fetches after an instruction of two bytes has a line
abbrev pub called_lines : List Line
called_lines =
    At 0x10000 AlwaysMiss ∷ At 0x10002 AlwaysHit ∷ At 0x10004 AlwaysHit ∷ Unreachable 0x10006 0x10006 ∷ []

-- their text
abbrev pub called_report : List ℕ
called_report =
    codes "0x00010000 always-miss\n"
    ++ (codes "0x00010002 always-hit\n"
    ++ (codes "0x00010004 always-hit\n"
    ++ codes "0x00010006-0x00010006 unreachable\n"))
