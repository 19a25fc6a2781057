-- Pairs of configurations in their order.
use Rattle.std.specs.Prelude.{List, [], ◌∷◌}
use Rattle.std.specs.declared.cmp.Ordering.{Ordering}
use Rattle.std.specs.declared.cmp.Ordering.TheVariants.{Less, Equal, Greater}
use Rattle.riscv_spec.specs.declared.kind.Link.TheVariants.{X1, X5}
use Rattle.flow_spec.specs.Configuration.{Configuration, configuration, next_part}
use Rattle.worked_examples.specs.Programs.{frame, at, in_call}

-- two configurations, and how the first stands to the second
abbrev pub worked_order : List (Configuration × Configuration × Ordering)
worked_order =
    (in_call (frame 0x10008 X5 0x10010) 0x10000, at 0x10004, Less)
    ∷ (at 0x10004, in_call (frame 0x10008 X5 0x10010) 0x10000, Greater)
    ∷ (at 0x10010, in_call (frame 0x10004 X1 0x10010) 0x10010, Less)
    ∷ (
      in_call (frame 0x10008 X1 0x10010) 0x10010,
      configuration (frame 0x10004 X1 0x1000c ∷ frame 0x10010 X1 0x10010 ∷ []) 0x10010,
      Greater,
    )
    ∷ (in_call (frame 0x10004 X1 0x10010) 0x10010, in_call (frame 0x10008 X1 0x10010) 0x10010, Less)
    ∷ (in_call (frame 0x10004 X1 0x10020) 0x10010, in_call (frame 0x10004 X5 0x10010) 0x10010, Less)
    ∷ (in_call (frame 0x10004 X1 0x1000c) 0x10010, in_call (frame 0x10004 X1 0x10010) 0x10010, Less)
    ∷ (in_call (frame 0x10004 X1 0x10010) 0x10010, in_call (frame 0x10004 X1 0x10010) 0x10010, Equal)
    ∷ (at 0x10002, next_part (at 0x10002), Less)
    ∷ (next_part (at 0x10002), at 0x10002, Greater)
    ∷ (next_part (at 0x10002), next_part (at 0x10002), Equal)
    ∷ (next_part (at 0x10002), in_call (frame 0x10004 X1 0x10002) 0x10002, Less)
    ∷ (next_part (at 0x10002), at 0x10004, Less)
    ∷ []
