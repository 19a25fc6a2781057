-- Small programs with compressed instructions: configurations with their successors or their faults, addresses with
-- whether they are good targets, and layers.
use Rattle.std.specs.Prelude.{ℕ, Bool, true, false, List, [], ◌∷◌, Ok, Err}
use Rattle.elf_spec.specs.Image.{Image}
use Rattle.riscv_spec.specs.declared.kind.Link.TheVariants.{X1}
use Rattle.riscv_spec.specs.declared.parcel.Isa.TheVariants.{Rv32ic}
use Rattle.flow_spec.specs.declared.frame.Frame.{Frame}
use Rattle.flow_spec.specs.declared.fault.FlowFault.TheVariants.{Illegal, BadTarget}
use Rattle.flow_spec.specs.Program.{Program, program}
use Rattle.flow_spec.specs.Configuration.{Configuration, next_part}
use Rattle.flow_spec.specs.Successors.{Successors}
use Rattle.worked_examples.specs.Programs.{as_words, as_parcels, file_of, frame, at, in_call}

-- a long instruction between two parcels
abbrev pub long_between : List ℕ
long_between = 0x00130001 ∷ 0x90020000 ∷ []  -- c.nop; nop; c.ebreak

-- a call over a stop, of a return
abbrev pub call_over_stop : List ℕ
call_over_stop = 0x90022011 ∷ 0x00018082 ∷ []  -- c.jal +4; c.ebreak; c.jr ra; c.nop

-- a jump onto the second half of a pair, which calls the first half
abbrev pub jump_onto_pair : List ℕ
jump_onto_pair = 0x0097a019 ∷ 0x90820000 ∷ 0x00019002 ∷ []  -- c.j +6; auipc ra, 0; c.jalr ra; c.ebreak; c.nop

-- a pair whose first half ends in the bytes of a c.nop
abbrev pub nop_within_pair : List ℕ
nop_within_pair = 0x00970001 ∷ 0x90820001 ∷ []  -- c.nop; auipc ra, 16; c.jalr ra

-- the first two bytes of a nop, alone in their segment
abbrev pub half_nop : Image
half_nop = record {
  file = file_of (0x00000013 ∷ []);
  segments = record { at = 0x10000; size = 2; offset = 84 } ∷ [];
  entry = 0x10000;
}

-- the program, the configuration, and what follows
abbrev pub CompressedFlow : Type 0
CompressedFlow = Program × Configuration × Successors

-- what the C.JAL opens, and what the pair opens: both return to two bytes after
abbrev pub opened_by_jal : Frame
opened_by_jal = frame 0x10002 X1 0x10004

abbrev pub opened_by_pair : Frame
opened_by_pair = frame 0x10008 X1 0x10002

-- parts, branches to the next instruction and beyond it, a call into the middle of a word, calls and pairs
abbrev pub worked_compressed_flows : List CompressedFlow
worked_compressed_flows =
    (as_parcels 4 long_between, at 0x10000, Ok (at 0x10002 ∷ []))
    ∷ (as_parcels 4 long_between, at 0x10002, Ok (next_part (at 0x10002) ∷ []))
    ∷ (as_parcels 4 long_between, next_part (at 0x10002), Ok (at 0x10006 ∷ []))
    ∷ (as_parcels 4 long_between, at 0x10006, Ok [])
    ∷ (as_parcels 16 long_between, at 0x10002, Ok (at 0x10006 ∷ []))
    ∷ (as_parcels 4 (0x9002c109 ∷ []), at 0x10000, Ok (at 0x10002 ∷ []))
    ∷ (as_parcels 4 (0x9002c111 ∷ 0x00018082 ∷ []), at 0x10000, Ok (at 0x10002 ∷ at 0x10004 ∷ []))
    ∷ (as_parcels 4 (0x002000ef ∷ 0x00100073 ∷ []), at 0x10000, Ok (in_call (frame 0x10004 X1 0x10002) 0x10002 ∷ []))
    ∷ (as_parcels 16 call_over_stop, at 0x10000, Ok (in_call opened_by_jal 0x10004 ∷ []))
    ∷ (as_parcels 16 call_over_stop, in_call opened_by_jal 0x10004, Ok (at 0x10002 ∷ []))
    ∷ (as_parcels 16 call_over_stop, at 0x10002, Ok [])
    ∷ (as_parcels 4 jump_onto_pair, at 0x10002, Ok (next_part (at 0x10002) ∷ []))
    ∷ (as_parcels 4 jump_onto_pair, next_part (at 0x10002), Ok (at 0x10006 ∷ []))
    ∷ (as_parcels 16 jump_onto_pair, at 0x10002, Ok (at 0x10006 ∷ []))
    ∷ (as_parcels 16 jump_onto_pair, at 0x10006, Ok (in_call opened_by_pair 0x10002 ∷ []))
    ∷ (as_parcels 16 nop_within_pair, at 0x10002, Ok (at 0x10006 ∷ []))
    ∷ []

-- an instruction that isn't there whole is of its two bytes; without compressed instructions all four are one word
abbrev pub worked_compressed_faults : List CompressedFlow
worked_compressed_faults =
    (as_parcels 16 (0x00000000 ∷ []), at 0x10000, Err (Illegal 0x10000 0x0000))
    ∷ (as_parcels 16 (0x0000001f ∷ []), at 0x10000, Err (Illegal 0x10000 0x001f))
    ∷ (program half_nop Rv32ic 16 0x10000, at 0x10000, Err (Illegal 0x10000 0x0013))
    ∷ (as_parcels 16 (0x00130001 ∷ []), at 0x10002, Err (Illegal 0x10002 0x0013))
    ∷ (as_words 16 long_between, at 0x10000, Err (Illegal 0x10000 0x00130001))
    ∷ (as_parcels 16 (0x00010001 ∷ []), at 0x10002, Err (BadTarget 0x10002 0x10004))
    ∷ (as_parcels 16 jump_onto_pair, at 0x10000, Err (BadTarget 0x10000 0x10006))
    ∷ (as_parcels 16 nop_within_pair, at 0x10004, Err (BadTarget 0x10004 0x10006))
    ∷ []

-- addresses of the program with a jump onto a pair, each with whether it is a good target
abbrev pub worked_compressed_targets : List (ℕ × Bool)
worked_compressed_targets =
    (0x10002, true)
    ∷ (0x10003, false)
    ∷ (0x10004, true)
    ∷ (0x10006, false)
    ∷ (0x10008, true)
    ∷ (0x1000c, false)
    ∷ []

-- the layers of the long instruction between two parcels, where a line begins in its middle
abbrev pub parted_layers : List (List Configuration)
parted_layers = (at 0x10000 ∷ []) ∷ (at 0x10002 ∷ []) ∷ (next_part (at 0x10002) ∷ []) ∷ (at 0x10006 ∷ []) ∷ []

-- and where none does
abbrev pub whole_layers : List (List Configuration)
whole_layers = (at 0x10000 ∷ []) ∷ (at 0x10002 ∷ []) ∷ (at 0x10006 ∷ []) ∷ []

-- the layers of the call
abbrev pub call_layers : List (List Configuration)
call_layers = (at 0x10000 ∷ []) ∷ (in_call opened_by_jal 0x10004 ∷ []) ∷ (at 0x10002 ∷ []) ∷ []
