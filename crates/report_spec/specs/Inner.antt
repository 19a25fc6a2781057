-- Which addresses of the text have a line in a report by address: all but those in the middle of an instruction that is
-- fetched at once. This project's own rule.
use Rattle.std.specs.Prelude.{◌≡◌, ℕ, ◌+◌, List, Some}
use Rattle.cache_spec.specs.Verdict.{IsUnreachable}
use Rattle.riscv_spec.specs.declared.parcel.Isa.{Isa}
use Rattle.riscv_spec.specs.declared.parcel.Isa.TheVariants.{Rv32i, Rv32ic}
use Rattle.flow_spec.specs.declared.instruction.Instruction.TheVariants.{Word}
use Rattle.flow_spec.specs.Program.{Program}
use Rattle.flow_spec.specs.Instruction.{IsText, instruction_at}
use Rattle.flow_spec.specs.Configuration.{Configuration, fetched}
use Rattle.report_spec.specs.Right.{EndsIn, Fetches}

-- how many bytes the addresses of a text stand apart, at the least
abbrev pub step_of : Isa → ℕ
step_of Rv32i = 4
step_of Rv32ic = 2

-- the configurations that fetch an address
abbrev pub IsAt : ℕ → Configuration → Type 0
IsAt address c = fetched c ≡ address

-- no path ends at the address
abbrev pub IsUnreached : Program → ℕ → Type 0
IsUnreached program address = IsUnreachable (Fetches program (IsAt address))

-- some path ends at the instruction that begins at the address
abbrev pub IsReached : Program → ℕ → Type 0
IsReached program address = (path : List Configuration) × EndsIn program (λ c. c.at ≡ address) path

-- the address is in the text, nothing fetches it, and two bytes before it an instruction of four bytes is reached
pub record IsInner (program : Program) (address : ℕ) : Type 0 where
  pub text : IsText program.isa program.image address
  pub unfetched : IsUnreached program address
  pub begins : ℕ
  pub middle : begins + 2 ≡ address
  pub four_bytes : (code : ℕ) × (instruction_at program.isa program.image begins ≡ Some (Word code))
  pub reached : IsReached program begins

-- the address is in the text and isn't inner
abbrev pub HasLine : Program → ℕ → Type 0
HasLine program address = IsText program.isa program.image address × (IsInner program address → ⊥)
