-- The settings that the arguments of a command line give, if they give any. The arguments lack the program's name.
-- Defaults and ranges are this project's own.
use Rattle.std.specs.Prelude.{ℕ, ◌≤◌, ◌&&◌, List, Option, Some, None, option_map, option_and_then, nat_le, codes, bytes_eq, if◌then◌else◌, IsTrue}
use Rattle.cache_spec.specs.Geometry.{Geometry, is_in_range, is_line}
use Rattle.cache_spec.specs.declared.start.Start.{Start}
use Rattle.cache_spec.specs.declared.start.Start.TheVariants.{Empty, Any}
use Rattle.riscv_spec.specs.declared.parcel.Isa.{Isa}
use Rattle.riscv_spec.specs.declared.parcel.Isa.TheVariants.{Rv32i, Rv32ic}
use Rattle.command_spec.specs.declared.settings.Ask.{Ask}
use Rattle.command_spec.specs.declared.settings.Ask.TheVariants.{Report, Graph}
use Rattle.command_spec.specs.declared.command.Command.{Command}
use Rattle.command_spec.specs.declared.command.Command.TheVariants as commands
use Rattle.command_spec.specs.declared.settings.Settings.{Settings}
use Rattle.command_spec.specs.Number.{number_of, address_of}
use Rattle.command_spec.specs.Texts.{Texts, plain_of, parsed_of}

-- the number that a value spells, or the default where no value is given
abbrev pub number_or : ℕ → Option (List ℕ) → Option ℕ
number_or default None = Some default
number_or default (Some text) = number_of text

-- the number that an option's value spells, or the default
abbrev pub number_in : List ℕ → ℕ → Texts → Option ℕ
number_in name default texts = number_or default (texts.value name)

-- how many bytes a line is to have: 32 unless the arguments say otherwise
abbrev pub line_in : Texts → Option ℕ
line_in texts = number_in (codes "--line") 32 texts

-- the geometry of three numbers, where they are in their ranges
abbrev pub geometry_of : ℕ → ℕ → ℕ → Option Geometry
geometry_of line sets ways =
    if is_in_range (record { line = line; sets = sets; ways = ways })
    then Some (record { line = line; sets = sets; ways = ways })
    else None

-- the line, and 64 sets and 4 ways unless the arguments say otherwise
abbrev pub geometry_in : Texts → Option Geometry
geometry_in texts =
    option_and_then (λ line.
    option_and_then (λ sets.
    option_and_then (λ ways. geometry_of line sets ways) (number_in (codes "--ways") 4 texts))
    (number_in (codes "--sets") 64 texts))
    (line_in texts)

-- the address that a value spells; no value is one that asks for nothing
abbrev pub address_if : Option (List ℕ) → Option (Option ℕ)
address_if None = Some None
address_if (Some text) = option_map Some (address_of text)

-- where the program is to begin, if the arguments say so
abbrev pub entry_in : Texts → Option (Option ℕ)
entry_in texts = address_if (texts.value (codes "--entry"))

-- what a value says that the cache starts with; without one it starts empty
abbrev pub start_of : Option (List ℕ) → Option Start
start_of None = Some Empty
start_of (Some text) =
    if bytes_eq text (codes "empty") then Some Empty else if bytes_eq text (codes "any") then Some Any else None

-- what the arguments say that it starts with
abbrev pub start_in : Texts → Option Start
start_in texts = start_of (texts.value (codes "--start"))

-- the instructions that a value names; without one those of RV32I
abbrev pub isa_of : Option (List ℕ) → Option Isa
isa_of None = Some Rv32i
isa_of (Some text) =
    if bytes_eq text (codes "rv32i") then Some Rv32i else if bytes_eq text (codes "rv32ic") then Some Rv32ic else None

-- those that the arguments name
abbrev pub isa_in : Texts → Option Isa
isa_in texts = isa_of (texts.value (codes "--isa"))

-- a number from 1 to the greatest
abbrev pub up_to : ℕ → ℕ → Option ℕ
up_to most n = if nat_le 1 n && nat_le n most then Some n else None

-- how many workers settle the jobs: 1 to 64, and 4 unless the arguments say otherwise
abbrev pub workers_in : Texts → Option ℕ
workers_in texts = option_and_then (up_to 64) (number_in (codes "--workers") 4 texts)

-- how many words the node table is to have: 1 to 4,194,304, and 1,048,576 unless the arguments say otherwise
abbrev pub nodes_in : Texts → Option ℕ
nodes_in texts = option_and_then (up_to 4194304) (number_in (codes "--nodes") 1048576 texts)

-- a report of a program of these instructions in a cache of this geometry and start, with contexts where the arguments
-- have the flag
abbrev pub report_as : Texts → Geometry → Isa → Start → ℕ → ℕ → Ask
report_as texts geometry isa start workers nodes =
    Report (record {
      geometry = geometry;
      isa = isa;
      start = start;
      contexts = texts.has (codes "--contexts");
      workers = workers;
      nodes = nodes;
    })

-- the report that the arguments of `classify` ask for
abbrev pub report_in : Texts → Option Ask
report_in texts =
    option_and_then (λ geometry.
    option_and_then (λ isa.
    option_and_then (λ start.
    option_and_then (λ workers. option_map (report_as texts geometry isa start workers) (nodes_in texts))
    (workers_in texts))
    (start_in texts))
    (isa_in texts))
    (geometry_in texts)

-- the graph of a program of these instructions, with lines of this size, where that is in its range
abbrev pub graph_of : Isa → ℕ → Option Ask
graph_of isa line = if is_line line then Some (Graph (record { isa = isa; line = line })) else None

-- the workers of a report, and the line of a graph, are in their ranges
abbrev pub IsInRange : Ask → Type 0
IsInRange (Report ask) = (1 ≤ ask.workers) × (ask.workers ≤ 64)
IsInRange (Graph ask) = IsTrue (is_line ask.line)

-- the graph that the arguments of `graph` ask for
abbrev pub graph_in : Texts → Option Ask
graph_in texts = option_and_then (λ isa. option_and_then (graph_of isa) (line_in texts)) (isa_in texts)

-- what a command asks for
abbrev pub ask_for : Command → Texts → Option Ask
ask_for commands.Classify texts = report_in texts
ask_for commands.Graph texts = graph_in texts

-- the settings with this entry
abbrev pub settings_with : Option ℕ → Ask → Settings
settings_with entry ask = record { entry = entry; ask = ask }

-- the settings that the arguments give, where each value is spelled and ranged as it is to be
abbrev pub settings_in : Texts → Option Settings
settings_in texts =
    option_and_then (λ ask. option_map (λ entry. settings_with entry ask) (entry_in texts))
    (ask_for texts.command texts)

-- the settings of arguments in plain form
unfoldable pub plain_settings : List (List ℕ) → Option Settings
plain_settings arguments = option_and_then settings_in (plain_of arguments)

-- the settings of arguments as clap reads them
unfoldable pub parsed_settings : List (List ℕ) → Option Settings
parsed_settings arguments = option_and_then settings_in (parsed_of arguments)

-- some settings, or else others
abbrev pub or_else : Option Settings → Option Settings → Option Settings
or_else None others = others
or_else (Some settings) others = Some settings

-- the settings that the arguments give: by their plain form, or else as clap reads them
abbrev pub settings_of : List (List ℕ) → Option Settings
settings_of arguments = or_else (plain_settings arguments) (parsed_settings arguments)
