-- Where control can't go on from an instruction, that instruction is why.
use Rattle.std.proofs.Common.{◌≡◌, ℕ, Bool, true, false, Option, Some, None, refl, sym, ap, ◌∙◌, ◌==◌, ◌&&◌, ◌||◌, not, if◌then◌else◌}
use Rattle.std.specs.Prelude.{Ok, Err, IfErr, option_map}
use Rattle.elf_spec.specs.Image.{Image}
use Rattle.riscv_spec.specs.declared.kind.Link.{Link}
use Rattle.riscv_spec.specs.declared.kind.Link.TheVariants.{X1, X5}
use Rattle.riscv_spec.specs.declared.parcel.Isa.{Isa}
use Rattle.flow_spec.specs.declared.instruction.Instruction.{Instruction}
use Rattle.flow_spec.specs.declared.frame.Frame.{Frame}
use Rattle.flow_spec.specs.declared.fault.FlowFault.TheVariants.{ComputedJump, BadTarget}
use Rattle.flow_spec.specs.declared.next.Next.{Next}
use Rattle.flow_spec.specs.declared.next.Next.TheVariants.{Go, Fork, Enter, Back}
use Rattle.flow_spec.specs.Instruction.{is_text, instruction_at, code_of}
use Rattle.flow_spec.specs.Transfer.{Transfer, plain, branch, jump, call, returning, computed, stop, illegal, before, is_good_target, is_good_next, is_second_half}
use Rattle.flow_spec.specs.Next.{Going, next_by, branch_to, return_to, is_same_link, if_next, if_good, frame_of}
use Rattle.flow_graph.specs.Refusal.{IsRefusalAt}

-- what isn't a good next place isn't a good target
no-target : (text second same : Bool) → (text && (not second || same)) ≡ false → (text && not second) ≡ false
no-target true true same none = refl
no-target true false same none = none
no-target false second same none = refl

-- the code of an instruction that is there
pub code_there : (there found : Option Instruction) (instruction : Instruction) → found ≡ Some instruction
    → found ≡ there → option_map code_of there ≡ Some (code_of instruction)
code_there there found instruction some is = ap (option_map code_of) (sym is ∙ some)

module _ (isa : Isa) (image : Image) (at : ℕ) where
  -- control goes on, or the instruction is why it can't
  abbrev IsRight : Going → Type 0
  IsRight going = IfErr going (IsRefusalAt isa image at)

  -- a test of a place, without which it is no good target
  tested : (b : Bool) (target : ℕ) (going : Going) → IsRight going
      → (b ≡ false → is_good_target isa image target ≡ false)
      → IsRight (if b then going else Err (BadTarget at target))
  tested true target going right why = right
  tested false target going right why = (refl, why refl)

  next-tested : (next : ℕ) (going : Going) → IsRight going → IsRight (if_next isa image at next going)
  next-tested next going right =
      tested (is_good_next isa image at next) next going right
      (no-target (is_text isa image next) (is_second_half isa image next) (before next == at))

  good-tested : (target : ℕ) (going : Going) → IsRight going → IsRight (if_good isa image at target going)
  good-tested target going right = tested (is_good_target isa image target) target going right (λ none. none)

  -- a return by another register than the call's leads where isn't known
  link-tested : (b : Bool) (going : Going) → IsRight going → IsRight (if b then going else Err (ComputedJump at))
  link-tested true going right = right
  link-tested false going right = refl

  branch-right : (b : Bool) (one other : Next) → IsRight (if b then Ok one else Ok other)
  branch-right true one other = tt
  branch-right false one other = tt

  return-right : (link : Link) (top : Option Frame) → IsRight (return_to isa image at link top)
  return-right X1 None = tt
  return-right X5 None = refl
  return-right X1 (Some frame) = link-tested (is_same_link X1 frame.link)
      (if_good isa image at frame.back (Ok (Back frame.back))) (good-tested frame.back (Ok (Back frame.back)) tt)
  return-right X5 (Some frame) = link-tested (is_same_link X5 frame.link)
      (if_good isa image at frame.back (Ok (Back frame.back))) (good-tested frame.back (Ok (Back frame.back)) tt)

  -- where control can't go on from an instruction, that is why
  pub refused : (next code : ℕ) (top : Option Frame) (transfer : Transfer)
      → option_map code_of (instruction_at isa image at) ≡ Some code
      → IsRight (next_by isa image at next code top transfer)
  refused next code top plain is = next-tested next (Ok (Go next)) tt
  refused next code top (branch target) is =
      next-tested next (if_good isa image at target (branch_to next target))
      (good-tested target (branch_to next target) (branch-right (target == next) (Go next) (Fork next target)))
  refused next code top (jump target) is = good-tested target (Ok (Go target)) tt
  refused next code top (call target link) is = good-tested target (Ok (Enter target (frame_of next target link))) tt
  refused next code top (returning link) is = return-right link top
  refused next code top stop is = tt
  refused next code top computed is = refl
  refused next code top illegal is = (refl, is)
