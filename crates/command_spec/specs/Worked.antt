-- Command lines that were worked out by hand from clap's documented rules, each with the settings that it gives.
use Rattle.std.specs.Prelude.{ℕ, Bool, true, false, List, [], ◌∷◌, Option, Some, None, codes}
use Rattle.cache_spec.specs.declared.start.Start.{Start}
use Rattle.cache_spec.specs.declared.start.Start.TheVariants.{Empty, Any}
use Rattle.riscv_spec.specs.declared.parcel.Isa.{Isa}
use Rattle.riscv_spec.specs.declared.parcel.Isa.TheVariants.{Rv32i, Rv32ic}
use Rattle.command_spec.specs.declared.settings.Ask.TheVariants.{Report, Graph}
use Rattle.command_spec.specs.declared.settings.Settings.{Settings}
use Rattle.command_spec.specs.Settings.{settings_with}

-- a report of RV32I from an empty cache with 64 sets and 4 ways, as by default, but for these
abbrev pub report_of : ℕ → Bool → ℕ → ℕ → Option Settings
report_of line contexts workers nodes =
    Some (settings_with None (Report (record {
      geometry = record { line = line; sets = 64; ways = 4 };
      isa = Rv32i;
      start = Empty;
      contexts = contexts;
      workers = workers;
      nodes = nodes;
    })))

-- a report with each option given
abbrev pub whole_report : Option Settings
whole_report =
    Some (settings_with (Some 0x10) (Report (record {
      geometry = record { line = 16; sets = 1; ways = 2 };
      isa = Rv32ic;
      start = Any;
      contexts = true;
      workers = 64;
      nodes = 1;
    })))

abbrev pub graph_with : ℕ → Option Settings
graph_with line = Some (settings_with None (Graph (record { isa = Rv32i; line = line })))

-- lines in plain form
abbrev pub worked_plain : List (List (List ℕ) × Option Settings)
worked_plain =
    (codes "classify" ∷ [], report_of 32 false 4 1048576)
    ∷ (codes "classify" ∷ codes "--line" ∷ codes "0000000016" ∷ [], report_of 16 false 4 1048576)
    ∷ (codes "classify" ∷ codes "--contexts" ∷ codes "--workers" ∷ codes "7" ∷ [], report_of 32 true 7 1048576)
    ∷ (codes "classify" ∷ codes "--nodes" ∷ codes "4194304" ∷ codes "--contexts" ∷ [], report_of 32 true 4 4194304)
    ∷ (codes "graph" ∷ codes "--line" ∷ codes "4" ∷ [], graph_with 4)
    ∷ []

-- lines in another form, which clap reads
abbrev pub worked_other : List (List (List ℕ) × Option Settings)
worked_other =
    (codes "classify" ∷ codes "--line=16" ∷ [], report_of 16 false 4 1048576)
    ∷ (codes "classify" ∷ codes "--contexts" ∷ codes "--" ∷ [], report_of 32 true 4 1048576)
    ∷ (
      codes "classify" ∷ codes "--line=16" ∷ codes "--sets" ∷ codes "1" ∷ codes "--ways=2" ∷ codes "--entry=0x10"
          ∷ codes "--start=any" ∷ codes "--isa" ∷ codes "rv32ic" ∷ codes "--contexts" ∷ codes "--workers=64"
          ∷ codes "--nodes=1" ∷ [],
      whole_report,
    )
    ∷ (codes "graph" ∷ codes "--line=4" ∷ codes "--" ∷ [], graph_with 4)
    ∷ []

-- lines that give none: no command, an argument too many, an option of another command or twice, a value that is missing,
-- one for a flag, and values that aren't spelled or ranged as they are to be
abbrev pub worked_none : List (List (List ℕ))
worked_none =
    []
    ∷ (codes "help" ∷ [])
    ∷ (codes "--" ∷ codes "classify" ∷ [])
    ∷ (codes "classify" ∷ codes "graph" ∷ [])
    ∷ (codes "classify" ∷ codes "--help" ∷ [])
    ∷ (codes "graph" ∷ codes "--ways=4" ∷ [])
    ∷ (codes "classify" ∷ codes "--line=16" ∷ codes "--line" ∷ codes "16" ∷ [])
    ∷ (codes "classify" ∷ codes "--contexts" ∷ codes "--contexts" ∷ [])
    ∷ (codes "classify" ∷ codes "--line" ∷ codes "--contexts" ∷ [])
    ∷ (codes "classify" ∷ codes "--line" ∷ codes "--" ∷ [])
    ∷ (codes "classify" ∷ codes "--contexts=true" ∷ [])
    ∷ (codes "classify" ∷ codes "--line=" ∷ [])
    ∷ (codes "classify" ∷ codes "--line" ∷ codes "-16" ∷ [])
    ∷ (codes "classify" ∷ codes "--line" ∷ codes "00000000016" ∷ [])
    ∷ (codes "classify" ∷ codes "--workers=0" ∷ [])
    ∷ (codes "classify" ∷ codes "--workers" ∷ codes "65" ∷ [])
    ∷ (codes "classify" ∷ codes "--nodes" ∷ codes "4194305" ∷ [])
    ∷ []
