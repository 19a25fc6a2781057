-- The successors of a configuration, in order, or its fault: where control goes, and which frames are open there.
use Rattle.std.specs.Prelude.{ℕ, ◌+◌, nat_lt, Bool, ◌||◌, List, [], ◌∷◌, ◌++◌, Option, Some, None, Result, Ok, Err, ◌==◌, if◌then◌else◌}
use Rattle.std.specs.List.{list_any}
use Rattle.flow_spec.specs.declared.frame.Frame.{Frame}
use Rattle.flow_spec.specs.declared.next.Next.{Next}
use Rattle.flow_spec.specs.declared.next.Next.TheVariants.{Ends, Go, Fork, Enter, Back}
use Rattle.flow_spec.specs.declared.fault.FlowFault.{FlowFault}
use Rattle.flow_spec.specs.declared.fault.FlowFault.TheVariants.{Recursion}
use Rattle.flow_spec.specs.Program.{Program}
use Rattle.flow_spec.specs.Instruction.{parts_at}
use Rattle.flow_spec.specs.Configuration.{Configuration, configuration, next_part}
use Rattle.flow_spec.specs.Next.{Going, next_at}

abbrev pub Successors : Type 0
Successors = Result (List Configuration) FlowFault

-- the function is the program itself, or one that is open
abbrev pub is_open : ℕ → List Frame → ℕ → Bool
is_open entry frames target = target == entry || list_any (λ frame. frame.callee == target) frames

-- all frames but the newest
abbrev pub older : List Frame → List Frame
older [] = []
older (frame ∷ []) = []
older (frame ∷ next ∷ frames) = frame ∷ older (next ∷ frames)

-- the newest frame
abbrev pub newest : List Frame → Option Frame
newest [] = None
newest (frame ∷ []) = Some frame
newest (frame ∷ next ∷ frames) = newest (next ∷ frames)

-- the configurations that control goes to, with the frames that are open there; no function may be open twice
abbrev pub leads_to : ℕ → List Frame → ℕ → Next → Successors
leads_to entry frames at Ends = Ok []
leads_to entry frames at (Go target) = Ok (configuration frames target ∷ [])
leads_to entry frames at (Fork next target) = Ok (configuration frames next ∷ configuration frames target ∷ [])
leads_to entry frames at (Enter target frame) =
    if is_open entry frames target then Err (Recursion at) else Ok (configuration (frames ++ frame ∷ []) target ∷ [])
leads_to entry frames at (Back target) = Ok (configuration (older frames) target ∷ [])

abbrev pub successors_by : ℕ → Configuration → Going → Successors
successors_by entry c (Ok next) = leads_to entry c.frames c.at next
successors_by entry c (Err fault) = Err fault

-- another part of the instruction comes after the one that the configuration fetches
abbrev pub has_next_part : Program → Configuration → Bool
has_next_part program c = nat_lt (c.part + 1) (parts_at program.isa program.image program.line c.at)

-- the successors of a configuration: the next part of its instruction, or what that instruction leads to
unfoldable pub successors : Program → Configuration → Successors
successors program c =
    if has_next_part program c
    then Ok (next_part c ∷ [])
    else successors_by program.entry c (next_at program.isa program.image c.at (newest c.frames))
