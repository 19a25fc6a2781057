-- What a run answers: for each status, what it says of the arguments, of the bytes that the source had, and of the bytes
-- that the sink got. This project's own statuses; their order is that in which the causes are met.
use Rattle.std.specs.Prelude.{◌≡◌, ◌⊎◌, ℕ, ◌+◌, List, Option, Some, Result, Ok, Err, ◌<◌, ◌≤◌, length, map, unwrap_or}
use Rattle.std.specs.Io.KnownBytes.{Appends, Keeps, Consumes, IsAtEnd}
use Rattle.byte_port.specs.Calls.{EndsAtFault, EndsWith, MovesSome}
use Rattle.byte_port.specs.Count.{Rose}
use Rattle.byte_port.specs.Stream.{SendsPrefix, Takes, TakesAtMost}
use Rattle.byte_port.specs.declared.Failed.{Failed}
use Rattle.byte_port.specs.declared.SinkFault.{SinkFault}
use Rattle.byte_port.specs.declared.SinkFault.TheVariants as sinks
use Rattle.elf_spec.specs.Image.{Image, image_of}
use Rattle.elf_spec.specs.declared.fault.ElfFault.{ElfFault}
use Rattle.transition_spec.specs.Layer.{all_of}
use Rattle.cache_spec.specs.Blocks.{HaveFewInAll, HaveMany}
use Rattle.flow_spec.specs.declared.fault.FlowFault.{FlowFault}
use Rattle.flow_spec.specs.Program.{Program, program}
use Rattle.flow_spec.specs.Configuration.{Configuration, fetched}
use Rattle.flow_spec.specs.Acceptance.{IsAccepted, IsRefused}
use Rattle.flow_spec.specs.Successors.{successors}
use Rattle.report_spec.specs.Report.{IsReport}
use Rattle.report_spec.specs.Graph.{IsGraphText}
use Rattle.command_spec.specs.declared.settings.Ask.{Ask}
use Rattle.command_spec.specs.declared.settings.Ask.TheVariants.{Report, Graph}
use Rattle.command_spec.specs.declared.settings.Settings.{Settings}
use Rattle.command_spec.specs.Settings.{settings_of}
use Rattle.one_answer.specs.Alike.{AreAlikeTexts}
use Rattle.node_verdicts.specs.ViewFault.{ViewFault}
use Rattle.node_verdicts.specs.ViewFault.TheVariants as faults
use Rattle.top_words.specs.declared.status.Status.{Status}
use Rattle.top_words.specs.declared.status.Status.TheVariants.{Done, Usage, OutOfMemory, ReadFault, WriteFault, FileTooBig, Elf, Flow, TooManyBlocks}

-- the most bytes that a file may have
abbrev pub file_limit : ℕ
file_limit = 16777216

-- all bytes that were left are the file, none is left, and they are no more than the limit
abbrev pub Reads : Option (List ℕ) → Option (List ℕ) → List ℕ → Type 0
Reads left now file = Consumes left now file × IsAtEnd now × (length file ≤ file_limit)

-- where the program begins: as the arguments say, or else as the file says
abbrev pub entry_of : Settings → Image → ℕ
entry_of settings image = unwrap_or settings.entry image.entry

-- the program that is asked about, with its instructions and lines
abbrev pub program_for : Ask → Image → ℕ → Program
program_for (Report ask) image entry = program image ask.isa ask.geometry.line entry
program_for (Graph ask) image entry = program image ask.isa ask.line entry

abbrev pub program_of : Settings → Image → Program
program_of settings image = program_for settings.ask image (entry_of settings image)

-- the addresses that the configurations of these layers fetch
abbrev pub addresses_of : List (List Configuration) → List ℕ
addresses_of layers = map fetched (all_of layers)

-- the text that is asked for, of a program with these layers: a report, where no set has too many fetched blocks, or the
-- text of the graph
abbrev pub IsTextFrom : Ask → Program → List (List Configuration) → List ℕ → Type 0
IsTextFrom (Report ask) program layers text =
    HaveFewInAll (addresses_of layers) ask.geometry × IsReport program ask.geometry ask.start ask.contexts text
IsTextFrom (Graph ask) program layers text = IsGraphText program text

-- a set has too many fetched blocks for what is asked for: the first such one, and this many
abbrev pub IsTooMuchFor : Ask → List (List Configuration) → ℕ → ℕ → Type 0
IsTooMuchFor (Report ask) layers set count = HaveMany (addresses_of layers) ask.geometry set count
IsTooMuchFor (Graph ask) layers set count = ⊥

-- the program is accepted with its layers, and they are such
abbrev pub IsAcceptedWith : Program → (List (List Configuration) → Type 0) → Type 0
IsAcceptedWith program IsSuch =
    (layers : List (List Configuration)) × IsAccepted (successors program) program layers × IsSuch layers

-- the file is read, and the text is what is asked for of its program
pub record IsAnswerOf (settings : Settings) (file text : List ℕ) : Type 0 where
  pub image : Image
  pub is_image : image_of file ≡ Ok image
  pub text_is : IsAcceptedWith (program_of settings image)
      (λ layers. IsTextFrom settings.ask (program_of settings image) layers text)

-- the file is read, and the first set of its program with too many fetched blocks is this one, with `count` of them
pub record HasManyBlocks (settings : Settings) (file : List ℕ) (set count : ℕ) : Type 0 where
  pub image : Image
  pub is_image : image_of file ≡ Ok image
  pub too_much : IsAcceptedWith (program_of settings image) (λ layers. IsTooMuchFor settings.ask layers set count)

-- the file isn't read as an executable, and this is why: the answer of the first test that fails
abbrev pub HasElfFault : List ℕ → ElfFault → Type 0
HasElfFault file fault = image_of file ≡ Err fault

-- the program of the file isn't accepted, and this is why
pub record HasFlowFault (settings : Settings) (file : List ℕ) (fault : FlowFault) : Type 0 where
  pub image : Image
  pub is_image : image_of file ≡ Ok image
  pub refused : IsRefused (successors (program_of settings image)) (program_of settings image) fault

-- what a status says of a program that is refused with a fault, that has too many blocks in a set, or of which a text is
-- wanted, and of what the sink got
abbrev pub SendsFor : (FlowFault → Type 0) → (ℕ → ℕ → Type 0) → (List ℕ → Type 0) → Status → Option (List ℕ)
    → Option (List ℕ) → Type 0
SendsFor Refused HasMany IsWanted Done old new = (text : List ℕ) × IsWanted text × Appends old new text
SendsFor Refused HasMany IsWanted WriteFault old new = (text : List ℕ) × IsWanted text × SendsPrefix old new text
SendsFor Refused HasMany IsWanted OutOfMemory old new =
    Keeps old new ⊎ ((text : List ℕ) × IsWanted text × SendsPrefix old new text)
SendsFor Refused HasMany IsWanted (Flow fault) old new = Refused fault × Keeps old new
SendsFor Refused HasMany IsWanted (TooManyBlocks set count) old new = HasMany set count × Keeps old new
SendsFor Refused HasMany IsWanted Usage old new = ⊥
SendsFor Refused HasMany IsWanted ReadFault old new = ⊥
SendsFor Refused HasMany IsWanted FileTooBig old new = ⊥
SendsFor Refused HasMany IsWanted (Elf fault) old new = ⊥

-- what a status says of a program, and of what the sink got
abbrev pub SaysOfProgram : Ask → Program → Status → Option (List ℕ) → Option (List ℕ) → Type 0
SaysOfProgram ask program =
    SendsFor (IsRefused (successors program) program)
    (λ set count. IsAcceptedWith program (λ layers. IsTooMuchFor ask layers set count))
    (λ text. IsAcceptedWith program (λ layers. IsTextFrom ask program layers text))

-- what a status says of the file that was read, and of what the sink got
abbrev pub Tells : Settings → List ℕ → Status → Option (List ℕ) → Option (List ℕ) → Type 0
Tells settings file (Elf fault) old new = HasElfFault file fault × Keeps old new
Tells settings file status old new =
    SendsFor (HasFlowFault settings file) (HasManyBlocks settings file) (IsAnswerOf settings file) status old new

-- the arguments give settings, the whole file was read, and the status says this of it
abbrev pub Read : List (List ℕ) → Status → Option (List ℕ) → Option (List ℕ) → Option (List ℕ) → Option (List ℕ)
    → Type 0
Read words status left now old new =
    (settings : Settings) × (settings_of words ≡ Some settings)
    × ((file : List ℕ) × Reads left now file × Tells settings file status old new)

-- what a run answers, of the bytes left in the source before and after, and of those sent to the sink before and after
abbrev pub Answers : List (List ℕ) → Status → Option (List ℕ) → Option (List ℕ) → Option (List ℕ) → Option (List ℕ)
    → Type 0
Answers words Usage left now old new = Keeps left now × Keeps old new
Answers words ReadFault left now old new = TakesAtMost left now (file_limit + 1) × Keeps old new
Answers words FileTooBig left now old new = Takes left now (file_limit + 1) × Keeps old new
Answers words OutOfMemory left now old new =
    (TakesAtMost left now (file_limit + 1) × Keeps old new) ⊎ Read words OutOfMemory left now old new
Answers words Done left now old new = Read words Done left now old new
Answers words WriteFault left now old new = Read words WriteFault left now old new
Answers words (Elf fault) left now old new = Read words (Elf fault) left now old new
Answers words (Flow fault) left now old new = Read words (Flow fault) left now old new
Answers words (TooManyBlocks set count) left now old new = Read words (TooManyBlocks set count) left now old new

-- the arguments give settings, the file is within the limit, and the status says this of it
abbrev pub Judges : List (List ℕ) → List ℕ → Status → Option (List ℕ) → Option (List ℕ) → Type 0
Judges words file status old new =
    (settings : Settings) × (settings_of words ≡ Some settings) × (length file ≤ file_limit)
    × Tells settings file status old new

-- what a status says of a source whose bytes are known at the start
abbrev pub SaysOf : List (List ℕ) → List ℕ → Status → Option (List ℕ) → Option (List ℕ) → Type 0
SaysOf words file Done old new = Judges words file Done old new
SaysOf words file WriteFault old new = Judges words file WriteFault old new
SaysOf words file (Elf fault) old new = Judges words file (Elf fault) old new
SaysOf words file (Flow fault) old new = Judges words file (Flow fault) old new
SaysOf words file FileTooBig old new = file_limit < length file
SaysOf words file Usage old new = Unit {0}
SaysOf words file OutOfMemory old new = Unit {0}
SaysOf words file ReadFault old new = Unit {0}
SaysOf words file (TooManyBlocks set count) old new = Judges words file (TooManyBlocks set count) old new

-- how arguments without settings are answered: by Usage, or by out of memory where there was none to read them; neither the
-- source nor the sink is touched
abbrev pub TouchesNeither : {S O : Type 0} → Status → S → S → O → O → Type 0
TouchesNeither status source source_after sink sink_after =
    ((status ≡ Usage) ⊎ (status ≡ OutOfMemory)) × (source_after ≡ source) × (sink_after ≡ sink)

-- the answer to arguments that give settings, where the file is known and no port fails: a report, the one refusal of the
-- file, or out of memory
abbrev pub Decides : List (List ℕ) → List ℕ → Status → Option (List ℕ) → Option (List ℕ) → Type 0
Decides words file Usage old new = ⊥
Decides words file ReadFault old new = ⊥
Decides words file WriteFault old new = ⊥
Decides words file status old new = SaysOf words file status old new

-- two texts are the same but for what is free in them: the ways of a report's unknown lines
abbrev pub AreSameFor : Ask → List ℕ → List ℕ → Type 0
AreSameFor (Report ask) text other = AreAlikeTexts text other
AreSameFor (Graph ask) text other = text ≡ other

-- what is settled of the nodes or why nothing is, as a status
abbrev pub settled_as : {V : Type 0} → Result V ViewFault → Result V Status
settled_as (Ok settled) = Ok settled
settled_as (Err (faults.TooManyBlocks set count)) = Err (TooManyBlocks set count)
settled_as (Err faults.OutOfMemory) = Err OutOfMemory

-- the status of a run, whatever it gives where it is done
abbrev pub status_of : {V : Type 0} → Result V Status → Status
status_of (Ok value) = Done
status_of (Err status) = status

-- the source's count of faults rose at a read fault, and is as it was else
abbrev pub CountsSource : Status → ℕ → ℕ → Type 0
CountsSource ReadFault before now = Rose before now
CountsSource status before now = now ≡ before

-- the sink's count of faults rose at a write fault, and is as it was else
abbrev pub CountsOut : Status → ℕ → ℕ → Type 0
CountsOut WriteFault before now = Rose before now
CountsOut status before now = now ≡ before

-- the sink's count of refusals may have risen where memory ran out, and is as it was else
abbrev pub CountsOutRefusals : Status → ℕ → ℕ → Type 0
CountsOutRefusals OutOfMemory before now = before ≤ now
CountsOutRefusals status before now = now ≡ before

-- how a run read its source: not at all at faulty arguments, up to the first read that failed, up to the limit, or to its
-- end; where memory ran out, up to there
abbrev pub ReadsFor : {P : Type 0} → (P → Result ℕ Failed → P → Type 0) → (P → Option (List ℕ)) → (P → ℕ) → Status → P
    → P → Type 0
ReadsFor reads left faults Usage old new = new ≡ old
ReadsFor reads left faults ReadFault old new = EndsAtFault reads left faults old new
ReadsFor reads left faults FileTooBig old new = MovesSome reads old new
ReadsFor reads left faults OutOfMemory old new = MovesSome reads old new ⊎ EndsWith reads (Ok 0) old new
ReadsFor reads left faults status old new = EndsWith reads (Ok 0) old new

-- how a run wrote to its sink: up to its answer's end, or up to the first write that failed or was refused; where memory
-- ran out elsewhere, up to there; and not at all where the arguments, the source or the file are refused
abbrev pub WritesFor : {P : Type 0} → (P → Result ℕ SinkFault → P → Type 0) → Status → P → P → Type 0
WritesFor writes Done old new = MovesSome writes old new
WritesFor writes WriteFault old new = EndsWith writes (Err sinks.Failed) old new
WritesFor writes OutOfMemory old new = MovesSome writes old new ⊎ EndsWith writes (Err sinks.OutOfMemory) old new
WritesFor writes status old new = new ≡ old
