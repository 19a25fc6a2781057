-- Words that were worked out by hand from the manual's tables.
use Rattle.std.specs.Prelude.{ℕ, List, [], ◌∷◌, ℤ, pos, negsuc, Option, Some, None}
use Rattle.riscv_spec.specs.declared.kind.Link.TheVariants.{X1, X5}
use Rattle.riscv_spec.specs.declared.kind.Kind.{Kind}
use Rattle.riscv_spec.specs.declared.kind.Kind.TheVariants.{Plain, Branch, Jump, Call, Return, Computed, Stop, Illegal}

-- words, each with its kind
abbrev pub worked_kinds : List (ℕ × Kind)
worked_kinds =
    (0x00000013, Plain)
    ∷ (0x00000073, Plain)
    ∷ (0x0000000f, Plain)
    ∷ (0x0000100f, Plain)
    ∷ (0x30529073, Plain)
    ∷ (0x02a58533, Plain)
    ∷ (0x40005013, Plain)
    ∷ (0x40000033, Plain)
    ∷ (0x00100073, Stop)
    ∷ (0x30200073, Stop)
    ∷ (0x10500073, Stop)
    ∷ (0xfe051ee3, Branch (negsuc 3))
    ∷ (0x06050c63, Branch (pos 120))
    ∷ (0xf91ff06f, Jump (negsuc 111))
    ∷ (0x008003ef, Jump (pos 8))
    ∷ (0x0080006f, Jump (pos 8))
    ∷ (0x00008067, Return X1)
    ∷ (0x00028067, Return X5)
    ∷ (0x00050067, Computed)
    ∷ (0x00408067, Computed)
    ∷ (0x000080e7, Computed)
    ∷ (0x00002067, Illegal)
    ∷ (0x00002063, Illegal)
    ∷ (0x00003003, Illegal)
    ∷ (0x40001013, Illegal)
    ∷ (0x40001033, Illegal)
    ∷ (0x00004073, Illegal)
    ∷ (0x00200073, Illegal)
    ∷ (0x00000000, Illegal)
    ∷ (0xffffffff, Illegal)
    ∷ (0x00c000ef, Call (pos 12) X1)
    ∷ (0x008002ef, Call (pos 8) X5)
    ∷ []

-- pairs of words, each with where it leads
abbrev pub worked_pairs : List (ℕ × ℕ × Option ℤ)
worked_pairs =
    (0x00000097, 0x00c080e7, Some (pos 12))
    ∷ (0xfffff317, 0xff030067, Some (negsuc 4111))
    ∷ (0x00000097, 0x00050067, None)
    ∷ (0x00000017, 0x00000067, None)
    ∷ []
