-- Where control goes from an address, by the instruction there and the newest frame: one equation for each kind. Whether
-- a call is one of an open function is asked later, of all frames. This project's own treatment of calls and returns.
use Rattle.std.specs.Prelude.{ℕ, Bool, true, false, Option, Some, None, Result, Ok, Err, ◌==◌, if◌then◌else◌, unwrap_or}
use Rattle.elf_spec.specs.Image.{Image}
use Rattle.riscv_spec.specs.declared.kind.Link.{Link}
use Rattle.riscv_spec.specs.declared.kind.Link.TheVariants.{X1, X5}
use Rattle.riscv_spec.specs.declared.parcel.Isa.{Isa}
use Rattle.flow_spec.specs.declared.instruction.Instruction.{Instruction}
use Rattle.flow_spec.specs.declared.instruction.Instruction.TheVariants.{Cut}
use Rattle.flow_spec.specs.declared.frame.Frame.{Frame}
use Rattle.flow_spec.specs.declared.next.Next.{Next}
use Rattle.flow_spec.specs.declared.next.Next.TheVariants.{Ends, Go, Fork, Enter, Back}
use Rattle.flow_spec.specs.declared.fault.FlowFault.{FlowFault}
use Rattle.flow_spec.specs.declared.fault.FlowFault.TheVariants.{Illegal, ComputedJump, BadTarget}
use Rattle.flow_spec.specs.Instruction.{instruction_at, code_of, address_after}
use Rattle.flow_spec.specs.Transfer.{Transfer, plain, branch, jump, call, returning, computed, stop, illegal, transfer_at, is_good_target, is_good_next}

-- a place, or a fault
abbrev pub Going : Type 0
Going = Result Next FlowFault

-- control may go on to the next instruction where that is a good next one
abbrev pub if_next : Isa → Image → ℕ → ℕ → Going → Going
if_next isa image at next going = if is_good_next isa image at next then going else Err (BadTarget at next)

-- and it may be led where that is a good target
abbrev pub if_good : Isa → Image → ℕ → ℕ → Going → Going
if_good isa image at target going = if is_good_target isa image target then going else Err (BadTarget at target)

-- a branch to the next instruction goes to one place
abbrev pub branch_to : ℕ → ℕ → Going
branch_to next target = if target == next then Ok (Go next) else Ok (Fork next target)

abbrev pub is_same_link : Link → Link → Bool
is_same_link X1 X1 = true
is_same_link X5 X5 = true
is_same_link X1 X5 = false
is_same_link X5 X1 = false

-- a call opens a frame, which returns to the next instruction
abbrev pub frame_of : ℕ → ℕ → Link → Frame
frame_of next target link = record { back = next; link = link; callee = target }

-- a return closes the newest frame, which it has to match; with none open, the return by x1 ends the path
abbrev pub return_to : Isa → Image → ℕ → Link → Option Frame → Going
return_to isa image at X1 None = Ok Ends
return_to isa image at X5 None = Err (ComputedJump at)
return_to isa image at link (Some frame) =
    if is_same_link link frame.link
    then if_good isa image at frame.back (Ok (Back frame.back))
    else Err (ComputedJump at)

-- where the instruction of this code at an address leads, with the instruction after it at `next`
abbrev pub next_by : Isa → Image → ℕ → ℕ → ℕ → Option Frame → Transfer → Going
next_by isa image at next code top plain = if_next isa image at next (Ok (Go next))
next_by isa image at next code top (branch target) =
    if_next isa image at next (if_good isa image at target (branch_to next target))
next_by isa image at next code top (jump target) = if_good isa image at target (Ok (Go target))
next_by isa image at next code top (call target link) =
    if_good isa image at target (Ok (Enter target (frame_of next target link)))
next_by isa image at next code top (returning link) = return_to isa image at link top
next_by isa image at next code top stop = Ok Ends
next_by isa image at next code top computed = Err (ComputedJump at)
next_by isa image at next code top illegal = Err (Illegal at code)

-- where an instruction at an address leads
abbrev pub next_from : Isa → Image → ℕ → Option Frame → Instruction → Going
next_from isa image at top instruction =
    next_by isa image at (address_after at instruction) (code_of instruction) top
    (transfer_at isa image at instruction)

-- where control goes from an address of the text, with this newest frame
unfoldable pub next_at : Isa → Image → ℕ → Option Frame → Going
next_at isa image at top = next_from isa image at top (unwrap_or (instruction_at isa image at) (Cut 0))
