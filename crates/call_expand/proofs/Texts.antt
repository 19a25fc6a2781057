-- Control goes to the text alone, and to two points only where they differ.
use Rattle.std.proofs.Common.{◌≡◌, ℕ, Bool, true, false, ⊎_elim, Option, Some, None, refl, sym, subst, IsTrue, ◌&&◌, ◌||◌, ◌==◌, not, if◌then◌else◌, eq-eqb}
use Rattle.std.specs.Prelude.{Ok, Err, IfOk, unwrap_or}
use Rattle.std.proofs.lemmas.Bool.{cases_eq, ne_eqb}
use Rattle.elf_spec.specs.Image.{Image}
use Rattle.riscv_spec.specs.declared.kind.Link.{Link}
use Rattle.riscv_spec.specs.declared.kind.Link.TheVariants.{X1, X5}
use Rattle.riscv_spec.specs.declared.parcel.Isa.{Isa}
use Rattle.flow_spec.specs.declared.instruction.Instruction.TheVariants.{Cut}
use Rattle.flow_spec.specs.Instruction.{is_text, IsText, instruction_at, code_of, address_after}
use Rattle.flow_spec.specs.declared.frame.Frame.{Frame}
use Rattle.flow_spec.specs.declared.fault.FlowFault.{FlowFault}
use Rattle.flow_spec.specs.declared.next.Next.{Next}
use Rattle.flow_spec.specs.declared.next.Next.TheVariants.{Ends, Go, Fork, Enter, Back}
use Rattle.flow_spec.specs.Transfer.{Transfer, plain, branch, jump, call, returning, computed, stop, illegal, before, transfer_at, is_good_target, is_good_next, is_second_half}
use Rattle.flow_spec.specs.Next.{Going, next_by, next_at, branch_to, return_to, is_same_link, if_good, frame_of}

-- the points are in the text, and two of them differ
abbrev pub AreTexts : Isa → Image → Next → Type 0
AreTexts isa image Ends = Unit {0}
AreTexts isa image (Go target) = IsText isa image target
AreTexts isa image (Fork next target) = IsText isa image next × IsText isa image target × (next ≡ target → ⊥)
AreTexts isa image (Enter target frame) = IsText isa image target
AreTexts isa image (Back target) = IsText isa image target

-- what holds of a point that is given where a test holds
if-ok : (P : Next → Type 0) (b : Bool) (going : Going) (fault : FlowFault) → (IsTrue b → IfOk going P)
    → IfOk (if b then going else Err fault) P
if-ok P true going fault holds = holds refl
if-ok P false going fault holds = tt

-- of two tests that hold the first does
both-first : (a b : Bool) → IsTrue (a && b) → IsTrue a
both-first true b both = refl
both-first false b both = both

module _ (isa : Isa) (image : Image) where
  -- a good target is in the text
  pub good-text : (target : ℕ) → IsTrue (is_good_target isa image target) → IsText isa image target
  good-text target good = both-first (is_text isa image target) (not (is_second_half isa image target)) good

  -- a good next instruction is
  good-next : (at next : ℕ) → IsTrue (is_good_next isa image at next) → IsText isa image next
  good-next at next good =
      both-first (is_text isa image next) (not (is_second_half isa image next) || before next == at) good

  -- a branch leads to two points only where they differ
  branch-texts : (next target : ℕ) → IsText isa image next → IsText isa image target
      → IfOk (branch_to next target) (AreTexts isa image)
  branch-texts next target first second =
      let P : Bool → Type 0 =
      λ b. IfOk {E = FlowFault} (if b then Ok (Go next) else Ok (Fork next target)) (AreTexts isa image) in
      ⊎_elim
      (λ (same : target ≡ next). subst P (sym (eq-eqb target next same)) first)
      (λ (other : target ≡ next → ⊥). subst P (sym (ne_eqb target next other))
      (first, second, λ same. other (sym same)))
      (cases_eq target next)

  -- what a good target leads to is as it says
  if-target : (at target : ℕ) (going : Going) → (IsText isa image target → IfOk going (AreTexts isa image))
      → IfOk (if_good isa image at target going) (AreTexts isa image)
  if-target at target going holds =
      if-ok (AreTexts isa image) (is_good_target isa image target) going _ (λ good. holds (good-text target good))

  -- a return leads to the text
  return-texts : (at : ℕ) (link : Link) (top : Option Frame)
      → IfOk (return_to isa image at link top) (AreTexts isa image)
  return-texts at X1 None = tt
  return-texts at X5 None = tt
  return-texts at X1 (Some frame) =
      if-ok (AreTexts isa image) (is_same_link X1 frame.link) _ _
      (λ same. if-target at frame.back (Ok (Back frame.back)) (λ text. text))
  return-texts at X5 (Some frame) =
      if-ok (AreTexts isa image) (is_same_link X5 frame.link) _ _
      (λ same. if-target at frame.back (Ok (Back frame.back)) (λ text. text))

  -- each transfer leads to the text
  by-texts : (at next code : ℕ) (top : Option Frame) (transfer : Transfer)
      → IfOk (next_by isa image at next code top transfer) (AreTexts isa image)
  by-texts at next code top plain =
      if-ok (AreTexts isa image) (is_good_next isa image at next) (Ok (Go next)) _ (λ good. good-next at next good)
  by-texts at next code top (branch target) =
      if-ok (AreTexts isa image) (is_good_next isa image at next) _ _
      (λ good. if-target at target (branch_to next target)
      (λ text. branch-texts next target (good-next at next good) text))
  by-texts at next code top (jump target) = if-target at target (Ok (Go target)) (λ text. text)
  by-texts at next code top (call target link) =
      if-target at target (Ok (Enter target (frame_of next target link))) (λ text. text)
  by-texts at next code top (returning link) = return-texts at link top
  by-texts at next code top stop = tt
  by-texts at next code top computed = tt
  by-texts at next code top illegal = tt

  -- each address leads to the text
  pub next-texts : (at : ℕ) (top : Option Frame) (next : Next) → next_at isa image at top ≡ Ok next
      → AreTexts isa image next
  unfolding next_at
  next-texts at top next is =
      let instruction = unwrap_or (instruction_at isa image at) (Cut 0) in
      let P : Going → Type 0 = λ going. IfOk going (AreTexts isa image) in
      subst P is
      (by-texts at (address_after at instruction) (code_of instruction) top (transfer_at isa image at instruction))
