-- The faults of an instruction.
use Rattle.std.specs.Prelude.{◌≡◌, ℕ, Bool, Some, IsTrue, IsFalse, OnOk, IfErr, Result, option_map}
use Rattle.elf_spec.specs.Image.{Image}
use Rattle.riscv_spec.specs.declared.parcel.Isa.{Isa}
use Rattle.flow_spec.specs.declared.fault.FlowFault.{FlowFault}
use Rattle.flow_spec.specs.declared.fault.FlowFault.TheVariants.{BadEntry, Illegal, ComputedJump, BadTarget, Recursion, TooManyFetches, OutOfMemory}
use Rattle.flow_spec.specs.Instruction.{instruction_at, code_of}
use Rattle.flow_spec.specs.Transfer.{is_good_target}

-- a test is passed, or else control can't go from `at` to the target
abbrev pub IsChecked : Result (Unit {0}) FlowFault → Bool → ℕ → ℕ → Type 0
IsChecked result good at target =
    OnOk result (IsTrue good) × IfErr result (λ fault. IsFalse good × (fault ≡ BadTarget at target))

-- what stands at the address is no instruction, leads where isn't known, or leads to a place that is no good target
abbrev pub IsRefusalAt : Isa → Image → ℕ → FlowFault → Type 0
IsRefusalAt isa image address (Illegal at word) =
    (at ≡ address) × (option_map code_of (instruction_at isa image address) ≡ Some word)
IsRefusalAt isa image address (ComputedJump at) = at ≡ address
IsRefusalAt isa image address (BadTarget at target) = (at ≡ address) × IsFalse (is_good_target isa image target)
IsRefusalAt isa image address (BadEntry entry) = ⊥
IsRefusalAt isa image address (Recursion at) = ⊥
IsRefusalAt isa image address (TooManyFetches limit) = ⊥
IsRefusalAt isa image address OutOfMemory = ⊥
