-- Configurations of small programs, each with its successors or its fault, and addresses with whether they are good
-- targets.
use Rattle.std.specs.Prelude.{ℕ, Bool, true, false, List, [], ◌∷◌, Ok, Err}
use Rattle.riscv_spec.specs.declared.kind.Link.TheVariants.{X1, X5}
use Rattle.flow_spec.specs.declared.frame.Frame.{Frame}
use Rattle.flow_spec.specs.declared.fault.FlowFault.TheVariants.{Illegal, ComputedJump, BadTarget, Recursion}
use Rattle.flow_spec.specs.Configuration.{Configuration, configuration}
use Rattle.flow_spec.specs.Successors.{Successors}
use Rattle.worked_examples.specs.Programs.{frame, at, in_call, loop, two_calls, pair_call, branch_onto_pair, call_by_x5, crossed_links, nested, call_at_end, calls_itself}

-- the program, the configuration, and what follows
abbrev pub Flow : Type 0
Flow = List ℕ × Configuration × Successors

-- ends, plain words, branches and jumps
abbrev pub worked_moves : List Flow
worked_moves =
    (0x00100073 ∷ [], at 0x10000, Ok [])
    ∷ (0x00008067 ∷ [], at 0x10000, Ok [])
    ∷ (0x0000006f ∷ [], at 0x10000, Ok (at 0x10000 ∷ []))
    ∷ (loop, at 0x10000, Ok (at 0x10004 ∷ []))
    ∷ (loop, at 0x10004, Ok (at 0x10008 ∷ at 0x10000 ∷ []))
    ∷ (loop, at 0x10008, Ok [])
    ∷ (0x00000263 ∷ 0x00100073 ∷ [], at 0x10000, Ok (at 0x10004 ∷ []))
    ∷ []

-- the open calls of the nested program
abbrev pub outer : Frame
outer = frame 0x10004 X1 0x10008

abbrev pub inner : Frame
inner = frame 0x1000c X5 0x10010

-- calls and returns, by a word or a pair and by either link; a pair is no return, and clears bit 0 of its target
abbrev pub worked_calls : List Flow
worked_calls =
    (two_calls, at 0x10000, Ok (in_call (frame 0x10004 X1 0x1000c) 0x1000c ∷ []))
    ∷ (two_calls, in_call (frame 0x10004 X1 0x1000c) 0x1000c, Ok (at 0x10004 ∷ []))
    ∷ (two_calls, at 0x10004, Ok (in_call (frame 0x10008 X1 0x1000c) 0x1000c ∷ []))
    ∷ (two_calls, in_call (frame 0x10008 X1 0x1000c) 0x1000c, Ok (at 0x10008 ∷ []))
    ∷ (pair_call, at 0x10000, Ok (at 0x10004 ∷ []))
    ∷ (pair_call, at 0x10004, Ok (in_call (frame 0x10008 X1 0x1000c) 0x1000c ∷ []))
    ∷ (call_by_x5, at 0x10000, Ok (in_call (frame 0x10004 X5 0x10008) 0x10008 ∷ []))
    ∷ (call_by_x5, in_call (frame 0x10004 X5 0x10008) 0x10008, Ok (at 0x10004 ∷ []))
    ∷ (nested, in_call outer 0x10008, Ok (configuration (outer ∷ inner ∷ []) 0x10010 ∷ []))
    ∷ (nested, configuration (outer ∷ inner ∷ []) 0x10010, Ok (in_call outer 0x1000c ∷ []))
    ∷ (call_at_end, at 0x10008, Ok (in_call (frame 0x1000c X1 0x10004) 0x10004 ∷ []))
    ∷ (0x00000097 ∷ 0x00008067 ∷ [], in_call outer 0x10004, Ok (in_call outer 0x10000 ∷ []))
    ∷ (0x00000317 ∷ 0x00930067 ∷ 0x00100073 ∷ [], at 0x10004, Ok (at 0x10008 ∷ []))
    ∷ []

-- faults of each kind; the return address of a call is tested at the return alone
abbrev pub worked_faults : List Flow
worked_faults =
    (0x000000ef ∷ [], at 0x10000, Err (Recursion 0x10000))
    ∷ (0x00050067 ∷ [], at 0x10000, Err (ComputedJump 0x10000))
    ∷ (0xffffffff ∷ [], at 0x10000, Err (Illegal 0x10000 0xffffffff))
    ∷ (0x00000013 ∷ [], at 0x10000, Err (BadTarget 0x10000 0x10004))
    ∷ (branch_onto_pair, at 0x10000, Err (BadTarget 0x10000 0x10008))
    ∷ (crossed_links, in_call (frame 0x10004 X5 0x10008) 0x10008, Err (ComputedJump 0x10008))
    ∷ (call_by_x5, at 0x10008, Err (ComputedJump 0x10008))
    ∷ (0x00000063 ∷ [], at 0x10000, Err (BadTarget 0x10000 0x10004))
    ∷ (0x002000ef ∷ 0x00100073 ∷ [], at 0x10000, Err (BadTarget 0x10000 0x10002))
    ∷ (call_at_end, in_call (frame 0x1000c X1 0x10004) 0x10004, Err (BadTarget 0x10004 0x1000c))
    ∷ (calls_itself, in_call (frame 0x10004 X1 0x10008) 0x10008, Err (Recursion 0x10008))
    ∷ []

-- addresses of the program with a branch onto a pair, each with whether it is a good target
abbrev pub worked_targets : List (ℕ × Bool)
worked_targets = (0x10004, true) ∷ (0x10008, false) ∷ (0x1000c, false) ∷ []
