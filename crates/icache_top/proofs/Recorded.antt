-- The jobs of a run, by what was found of its program.
use Rattle.std.proofs.Common.{◌≡◌, ℕ, List, [], refl, subst, Some, None}
use Rattle.std.specs.Prelude.{Option, IfSome}
use Rattle.std.proofs.KnownBytes.{Consumes-whole}
use Rattle.transition_spec.specs.Layer.{all_of}
use Rattle.flow_spec.specs.Acceptance.{IsAccepted}
use Rattle.flow_spec.specs.Configuration.{Configuration}
use Rattle.flow_spec.specs.Program.{Program}
use Rattle.flow_spec.specs.Successors.{successors}
use Rattle.call_expand.specs.Expansion.{Expansion, IsGraphOf}
use Rattle.age_spec.specs.Jobs.{AreJobs}
use Rattle.command_spec.specs.declared.settings.Ask.TheVariants.{Report}
use Rattle.command_spec.specs.declared.settings.ReportAsk.{ReportAsk}
use Rattle.top_words.specs.declared.status.Status.{Status}
use Rattle.top_words.specs.declared.status.Status.TheVariants.{Done, Usage, OutOfMemory, ReadFault, WriteFault, FileTooBig, Elf, Flow, TooManyBlocks}
use Rattle.icache_top.specs.declared.outcome.JobRecord.{JobRecord}
use Rattle.icache_top.specs.Answer.{IsAcceptedWith}
use Rattle.icache_top.specs.JobRecords.{AreRecordsFrom, HasRecords, HasRecordsOf, records_of}

-- the records of the jobs over the graph of an expanded program are what is wanted of it
pub expanded_records : (program : Program) (ask : ReportAsk) (expanded : Expansion) (blocks : List ℕ)
    (records : List JobRecord)
    → ((layers : List (List Configuration)) × IsAccepted (successors program) program layers
    × (expanded.configurations ≡ all_of layers))
    → IsGraphOf (successors program) program.entry expanded.configurations expanded.nodes
    → AreJobs expanded.nodes ask.geometry ask.start blocks → records ≡ records_of blocks
    → IsAcceptedWith program (λ layers. AreRecordsFrom (Report ask) program layers records)
expanded_records program ask expanded blocks records (layers, accepted, all) graph jobs are = (
  layers,
  accepted,
  (
    blocks,
    record {
      nodes = expanded.nodes;
      graph = subst (λ cs. IsGraphOf (successors program) program.entry cs expanded.nodes) all graph;
      jobs = jobs;
    },
    are,
  ),
)

-- a run that isn't done has no records
pub none_but_done : (words : List (List ℕ)) (status : Status) (left now : Option (List ℕ)) (records : List JobRecord)
    → (status ≡ Done → ⊥) → records ≡ [] → HasRecords words status left now records
none_but_done words Done left now records other none = absurd (other refl)
none_but_done words Usage left now records other none = none
none_but_done words OutOfMemory left now records other none = none
none_but_done words ReadFault left now records other none = none
none_but_done words WriteFault left now records other none = none
none_but_done words FileTooBig left now records other none = none
none_but_done words (Elf fault) left now records other none = none
none_but_done words (Flow fault) left now records other none = none
none_but_done words (TooManyBlocks set count) left now records other none = none

-- what holds anyway holds where the bytes are known
where_known : {P : Type 0} (left : Option (List ℕ)) → P → IfSome left (λ file. P)
where_known None holds = tt
where_known (Some file) holds = holds

-- the file that was read is the bytes that were known
pub known_records : (words : List (List ℕ)) (status : Status) (left now : Option (List ℕ)) (records : List JobRecord)
    → HasRecords words status left now records → IfSome left (λ file. HasRecordsOf words file status records)
known_records words Done left now records (settings, given, (file, reads, are)) =
    Consumes-whole left now file (λ file. HasRecordsOf words file Done records) reads.0 reads.1 (settings, given, are)
known_records words Usage left now records none = where_known left none
known_records words OutOfMemory left now records none = where_known left none
known_records words ReadFault left now records none = where_known left none
known_records words WriteFault left now records none = where_known left none
known_records words FileTooBig left now records none = where_known left none
known_records words (Elf fault) left now records none = where_known left none
known_records words (Flow fault) left now records none = where_known left none
known_records words (TooManyBlocks set count) left now records none = where_known left none
