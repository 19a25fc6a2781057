-- The jobs of a run: of a report that was sent whole, the blocks that the ages leave unclear. No other answer has any.
use Rattle.std.specs.Prelude.{◌≡◌, ℕ, List, [], map, Option, Some, None, Ok}
use Rattle.elf_spec.specs.Image.{Image, image_of}
use Rattle.transition_spec.specs.Layer.{all_of}
use Rattle.cache_spec.specs.Geometry.{Geometry}
use Rattle.cache_spec.specs.declared.start.Start.{Start}
use Rattle.flow_spec.specs.Program.{Program}
use Rattle.flow_spec.specs.Configuration.{Configuration}
use Rattle.flow_spec.specs.Successors.{successors}
use Rattle.path_model.specs.declared.graph.Node.{Node}
use Rattle.call_expand.specs.Expansion.{IsGraphOf}
use Rattle.age_spec.specs.Jobs.{AreJobs}
use Rattle.command_spec.specs.declared.settings.Ask.{Ask}
use Rattle.command_spec.specs.declared.settings.Ask.TheVariants.{Report, Graph}
use Rattle.command_spec.specs.declared.settings.Settings.{Settings}
use Rattle.command_spec.specs.Settings.{settings_of}
use Rattle.top_words.specs.declared.status.Status.{Status}
use Rattle.top_words.specs.declared.status.Status.TheVariants.{Done}
use Rattle.icache_top.specs.declared.outcome.JobRecord.{JobRecord}
use Rattle.icache_top.specs.Answer.{IsAcceptedWith, Reads, program_of}

-- the record of a block, without places
abbrev pub record_of : ℕ → JobRecord
record_of block = record { block = block; places = None }

abbrev pub records_of : List ℕ → List JobRecord
records_of blocks = map record_of blocks

-- the blocks that the ages leave unclear over the graph of the program's configurations
pub record AreJobsOver (program : Program) (g : Geometry) (start : Start) (layers : List (List Configuration))
    (blocks : List ℕ) : Type 0 where
  pub nodes : List Node
  pub graph : IsGraphOf (successors program) program.entry (all_of layers) nodes
  pub jobs : AreJobs nodes g start blocks

-- the records that are asked for, of a program with these layers: for a report those of its jobs, and for the text of the
-- graph none
abbrev pub AreRecordsFrom : Ask → Program → List (List Configuration) → List JobRecord → Type 0
AreRecordsFrom (Report ask) program layers records =
    (blocks : List ℕ) × AreJobsOver program ask.geometry ask.start layers blocks × (records ≡ records_of blocks)
AreRecordsFrom (Graph ask) program layers records = records ≡ []

-- the file is read, and the records are what is asked for of its program
pub record AreRecordsOf (settings : Settings) (file : List ℕ) (records : List JobRecord) : Type 0 where
  pub image : Image
  pub is_image : image_of file ≡ Ok image
  pub records_are : IsAcceptedWith (program_of settings image)
      (λ layers. AreRecordsFrom settings.ask (program_of settings image) layers records)

-- the arguments give settings, the whole file was read, and the records are its records
abbrev pub AreReadRecords : List (List ℕ) → Option (List ℕ) → Option (List ℕ) → List JobRecord → Type 0
AreReadRecords words left now records =
    (settings : Settings) × (settings_of words ≡ Some settings)
    × ((file : List ℕ) × Reads left now file × AreRecordsOf settings file records)

-- the records of a run, of the bytes left in the source before and after: those of the file where the run is done, and
-- else none
abbrev pub HasRecords : List (List ℕ) → Status → Option (List ℕ) → Option (List ℕ) → List JobRecord → Type 0
HasRecords words Done left now records = AreReadRecords words left now records
HasRecords words status left now records = records ≡ []

-- the same of a source whose bytes are known at the start
abbrev pub HasRecordsOf : List (List ℕ) → List ℕ → Status → List JobRecord → Type 0
HasRecordsOf words file Done records =
    (settings : Settings) × (settings_of words ≡ Some settings) × AreRecordsOf settings file records
HasRecordsOf words file status records = records ≡ []
