-- Small programs, their images, and configurations of them.
use Rattle.std.specs.Prelude.{ℕ, ◌*◌, List, [], ◌∷◌, ◌++◌, length, flat_map}
use Rattle.std.specs.Int.{w32, to_le_bytes}
use Rattle.riscv_spec.specs.declared.kind.Link.{Link}
use Rattle.riscv_spec.specs.declared.parcel.Isa.TheVariants.{Rv32i, Rv32ic}
use Rattle.flow_spec.specs.declared.frame.Frame.{Frame}
use Rattle.flow_spec.specs.Configuration.{Configuration, configuration}
use Rattle.flow_spec.specs.Program.{Program, program}
use Rattle.elf_spec.specs.Image.{Image}
use Rattle.worked_examples.specs.Headers.{head_for}

-- a file of these words
abbrev pub file_of : List ℕ → List ℕ
file_of words = head_for (4 * length words) ++ flat_map (to_le_bytes w32) words

-- the image of these words, the first of which lies at 0x10000
abbrev pub program_of : List ℕ → Image
program_of words = record {
  file = file_of words;
  segments = record { at = 0x10000; size = 4 * length words; offset = 84 } ∷ [];
  entry = 0x10000;
}

-- the program that begins with the first of these words, in cache lines of this many bytes
abbrev pub as_words : ℕ → List ℕ → Program
as_words line words = program (program_of words) Rv32i line 0x10000

-- the same with compressed instructions
abbrev pub as_parcels : ℕ → List ℕ → Program
as_parcels line words = program (program_of words) Rv32ic line 0x10000

-- an open call
abbrev pub frame : ℕ → Link → ℕ → Frame
frame back link callee = record { back = back; link = link; callee = callee }

-- an address with no call open
abbrev pub at : ℕ → Configuration
at address = configuration [] address

-- an address with one call open
abbrev pub in_call : Frame → ℕ → Configuration
in_call opened address = configuration (opened ∷ []) address

-- a word and a branch back to it by 4 bytes, with a stop after
abbrev pub loop : List ℕ
loop = 0x00000013 ∷ 0xfe051ee3 ∷ 0x00100073 ∷ []  -- nop; bnez a0, -4; ebreak

-- the same with a word after that no path reaches
abbrev pub loop_and_rest : List ℕ
loop_and_rest = 0x00000013 ∷ 0xfe051ee3 ∷ 0x00100073 ∷ 0x00000013 ∷ []  -- nop; bnez a0, -4; ebreak; nop

-- a word and a stop
abbrev pub nop_and_stop : List ℕ
nop_and_stop = 0x00000013 ∷ 0x00100073 ∷ []  -- nop; ebreak

-- two calls of one function, a stop, and the function, which returns
abbrev pub two_calls : List ℕ
two_calls = 0x00c000ef ∷ 0x008000ef ∷ 0x00100073 ∷ 0x00008067 ∷ []  -- jal +12; jal +8; ebreak; ret

-- a pair that calls the last word, a stop, and a return
abbrev pub pair_call : List ℕ
pair_call = 0x00000097 ∷ 0x00c080e7 ∷ 0x00100073 ∷ 0x00008067 ∷ []  -- auipc ra, 0; jalr 12(ra); ebreak; ret

-- a branch onto the second half of a pair
abbrev pub branch_onto_pair : List ℕ
branch_onto_pair = 0x00000463 ∷ 0x00000097 ∷ 0x00c080e7 ∷ []  -- beqz zero, +8; auipc ra, 0; jalr 12(ra)

-- a call by x5, a stop, and a return by x5
abbrev pub call_by_x5 : List ℕ
call_by_x5 = 0x008002ef ∷ 0x00100073 ∷ 0x00028067 ∷ []  -- jal t0, +8; ebreak; jr t0

-- the same with a return by x1
abbrev pub crossed_links : List ℕ
crossed_links = 0x008002ef ∷ 0x00100073 ∷ 0x00008067 ∷ []  -- jal t0, +8; ebreak; ret

-- a call by x1 of a function that calls another by x5
abbrev pub nested : List ℕ
nested = 0x008000ef ∷ 0x00100073 ∷ 0x008002ef ∷ 0x00008067 ∷ 0x00028067 ∷ []

-- a jump to the last word, which calls the word before it, a return
abbrev pub call_at_end : List ℕ
call_at_end = 0x0080006f ∷ 0x00008067 ∷ 0xffdff0ef ∷ []

-- a call of a function that calls itself
abbrev pub calls_itself : List ℕ
calls_itself = 0x008000ef ∷ 0x00100073 ∷ 0x000000ef ∷ 0x00008067 ∷ []
