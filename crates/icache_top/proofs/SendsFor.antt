-- What a status says of the file that was read.
use Rattle.std.proofs.Common.{◌≡◌, ◌⊎◌, ℕ, List, sym, subst, inl, inr}
use Rattle.std.specs.Prelude.{Option, Ok, Err, Result, IsErrAnd, IfErr}
use Rattle.std.proofs.KnownBytes.{Keeps-refl}
use Rattle.byte_port.specs.Stream.{SendsPrefix}
use Rattle.elf_spec.specs.Image.{Image, image_of}
use Rattle.elf_spec.specs.declared.fault.ElfFault.{ElfFault}
use Rattle.elf_spec.specs.declared.fault.ElfFault.TheVariants as elf
use Rattle.flow_spec.specs.declared.fault.FlowFault.{FlowFault}
use Rattle.flow_spec.specs.declared.fault.FlowFault.TheVariants as flow
use Rattle.node_verdicts.specs.ViewFault.{ViewFault}
use Rattle.node_verdicts.specs.ViewFault.TheVariants as faults
use Rattle.command_spec.specs.declared.settings.Settings.{Settings}
use Rattle.byte_port.specs.declared.SinkFault.{SinkFault}
use Rattle.byte_port.specs.declared.SinkFault.TheVariants as sinks
use Rattle.top_words.specs.declared.status.Status.{Status}
use Rattle.top_words.specs.declared.status.Status.TheVariants.{Done, Usage, OutOfMemory, ReadFault, WriteFault, FileTooBig, Elf, Flow, TooManyBlocks}
use Rattle.top_words.specs.Status.{of_elf, of_flow, of_sink}
use Rattle.icache_top.specs.Answer.{SendsFor, Tells, SaysOfProgram, program_for, program_of, entry_of, settled_as, status_of}

status_is : {V : Type 0} (r : Result V Status) (status : Status) → IsErrAnd r (λ s. s ≡ status) → status_of r ≡ status
status_is (Ok done) status h = absurd h
status_is (Err s) status h = h

-- a prefix of a wanted text was sent, and this fault ended it
pub sent_reported : {V : Type 0} (Refused : FlowFault → Type 0) (HasMany : ℕ → ℕ → Type 0) (IsWanted : List ℕ → Type 0)
    (old new : Option (List ℕ)) (text : List ℕ)
    → (fault : SinkFault) (r : Result V Status) → IsWanted text → SendsPrefix old new text
    → IsErrAnd r (λ s. s ≡ of_sink fault)
    → SendsFor Refused HasMany IsWanted (status_of r) old new
sent_reported Refused HasMany IsWanted old new text sinks.Failed r wanted part gives =
    let P : Status → Type 0 = λ status. SendsFor Refused HasMany IsWanted status old new in
    subst P (sym (status_is r WriteFault gives)) (text, wanted, part)
sent_reported Refused HasMany IsWanted old new text sinks.OutOfMemory r wanted part gives =
    let P : Status → Type 0 = λ status. SendsFor Refused HasMany IsWanted status old new in
    subst P (sym (status_is r OutOfMemory gives)) (inr (text, wanted, part))

-- a fault of the program, as a status

refused_of : (Refused : FlowFault → Type 0) (fault : FlowFault) → (fault ≡ flow.OutOfMemory → ⊥)
    → (fault ≡ flow.OutOfMemory) ⊎ Refused fault
    → Refused fault
refused_of Refused fault other (inl memory) = absurd (other memory)
refused_of Refused fault other (inr refused) = refused

module _ (Refused : FlowFault → Type 0) (HasMany : ℕ → ℕ → Type 0) (IsWanted : List ℕ → Type 0) (s : Option (List ℕ))
  where
    fault_reported : (fault : FlowFault) → (fault ≡ flow.OutOfMemory) ⊎ Refused fault
        → SendsFor Refused HasMany IsWanted (of_flow fault) s s
    fault_reported flow.OutOfMemory refuses = inl (Keeps-refl s)
    fault_reported (flow.BadEntry entry) refuses = (refused_of Refused _ (λ e. cc) refuses, Keeps-refl s)
    fault_reported (flow.Illegal at word) refuses = (refused_of Refused _ (λ e. cc) refuses, Keeps-refl s)
    fault_reported (flow.ComputedJump at) refuses = (refused_of Refused _ (λ e. cc) refuses, Keeps-refl s)
    fault_reported (flow.BadTarget at target) refuses = (refused_of Refused _ (λ e. cc) refuses, Keeps-refl s)
    fault_reported (flow.Recursion at) refuses = (refused_of Refused _ (λ e. cc) refuses, Keeps-refl s)
    fault_reported (flow.TooManyFetches limit) refuses = (refused_of Refused _ (λ e. cc) refuses, Keeps-refl s)

    pub flow_reported : {V : Type 0} (fault : FlowFault) (r : Result V Status) → (fault ≡ flow.OutOfMemory) ⊎ Refused fault
        → IsErrAnd r (λ s. s ≡ of_flow fault) → SendsFor Refused HasMany IsWanted (status_of r) s s
    flow_reported fault r refuses gives =
        let P : Status → Type 0 = λ status. SendsFor Refused HasMany IsWanted status s s in
        subst P (sym (status_is r (of_flow fault) gives)) (fault_reported fault refuses)

-- a fault of the file, as a status

fault_of : (file : List ℕ) (fault : ElfFault) → (fault ≡ elf.OutOfMemory → ⊥)
    → (image_of file ≡ Err fault) ⊎ (fault ≡ elf.OutOfMemory)
    → image_of file ≡ Err fault
fault_of file fault other (inl is) = is
fault_of file fault other (inr memory) = absurd (other memory)

file_reported : (settings : Settings) (file : List ℕ) (s : Option (List ℕ)) (fault : ElfFault)
    → (image_of file ≡ Err fault) ⊎ (fault ≡ elf.OutOfMemory)
    → Tells settings file (of_elf fault) s s
file_reported settings file s elf.OutOfMemory fails = inl (Keeps-refl s)
file_reported settings file s (elf.Truncated need have) fails = (fault_of file _ (λ e. cc) fails, Keeps-refl s)
file_reported settings file s elf.NotElf fails = (fault_of file _ (λ e. cc) fails, Keeps-refl s)
file_reported settings file s elf.NotClass32 fails = (fault_of file _ (λ e. cc) fails, Keeps-refl s)
file_reported settings file s elf.NotLittle fails = (fault_of file _ (λ e. cc) fails, Keeps-refl s)
file_reported settings file s elf.BadVersion fails = (fault_of file _ (λ e. cc) fails, Keeps-refl s)
file_reported settings file s (elf.NotExecutable kind) fails = (fault_of file _ (λ e. cc) fails, Keeps-refl s)
file_reported settings file s (elf.NotRiscv machine) fails = (fault_of file _ (λ e. cc) fails, Keeps-refl s)
file_reported settings file s (elf.BadEntrySize size) fails = (fault_of file _ (λ e. cc) fails, Keeps-refl s)
file_reported settings file s (elf.TooManySegments count) fails = (fault_of file _ (λ e. cc) fails, Keeps-refl s)
file_reported settings file s (elf.SegmentOutside index) fails = (fault_of file _ (λ e. cc) fails, Keeps-refl s)
file_reported settings file s (elf.SegmentWraps index) fails = (fault_of file _ (λ e. cc) fails, Keeps-refl s)
file_reported settings file s (elf.SegmentsOverlap index) fails = (fault_of file _ (λ e. cc) fails, Keeps-refl s)
file_reported settings file s elf.NoText fails = (fault_of file _ (λ e. cc) fails, Keeps-refl s)

pub elf_reported : {V : Type 0} (settings : Settings) (file : List ℕ) (s : Option (List ℕ)) (fault : ElfFault)
    (r : Result V Status)
    → (image_of file ≡ Err fault) ⊎ (fault ≡ elf.OutOfMemory) → IsErrAnd r (λ s. s ≡ of_elf fault)
    → Tells settings file (status_of r) s s
elf_reported settings file s fault r fails gives =
    let P : Status → Type 0 = λ status. Tells settings file status s s in
    subst P (sym (status_is r (of_elf fault) gives)) (file_reported settings file s fault fails)

-- too many blocks of a set are fetched, or memory was wanted
abbrev pub IsManyFault : (ℕ → ℕ → Type 0) → ViewFault → Type 0
IsManyFault HasMany (faults.TooManyBlocks set count) = HasMany set count
IsManyFault HasMany faults.OutOfMemory = Unit {0}

-- why the nodes of a program have no verdicts, as a status
pub settled_reported : {V : Type 0}
    (Refused : FlowFault → Type 0) (HasMany : ℕ → ℕ → Type 0) (IsWanted : List ℕ → Type 0)
    (s : Option (List ℕ))
    → (found : Result V ViewFault) (status : Status) → settled_as found ≡ Err status → IfErr found (IsManyFault HasMany)
    → SendsFor Refused HasMany IsWanted status s s
settled_reported Refused HasMany IsWanted s (Ok verdicts) status is many = absurd (cc is)
settled_reported Refused HasMany IsWanted s (Err (faults.TooManyBlocks set count)) status is many =
    let same : TooManyBlocks set count ≡ status = cc is in
    subst (λ (status : Status). SendsFor Refused HasMany IsWanted status s s) same (many, Keeps-refl s)
settled_reported Refused HasMany IsWanted s (Err faults.OutOfMemory) status is many =
    let same : OutOfMemory ≡ status = cc is in
    subst (λ (status : Status). SendsFor Refused HasMany IsWanted status s s) same (inl (Keeps-refl s))

-- a status that is handed on
pub handed_on : {V : Type 0} (Refused : FlowFault → Type 0) (HasMany : ℕ → ℕ → Type 0) (IsWanted : List ℕ → Type 0)
    (s : Option (List ℕ)) (status : Status)
    → (r : Result V Status) → IsErrAnd r (λ own. own ≡ status) → SendsFor Refused HasMany IsWanted status s s
    → SendsFor Refused HasMany IsWanted (status_of r) s s
handed_on Refused HasMany IsWanted s status r gives reported =
    subst (λ (own : Status). SendsFor Refused HasMany IsWanted own s s) (sym (status_is r status gives)) reported

at_entry : (settings : Settings) (file : List ℕ) (image : Image) (status : Status) (old new : Option (List ℕ))
    → image_of file ≡ Ok image
    → SaysOfProgram settings.ask (program_of settings image) status old new → Tells settings file status old new
at_entry settings file image Done old new is (text, wanted, sent) =
    (text, record { image = image; is_image = is; text_is = wanted }, sent)
at_entry settings file image WriteFault old new is (text, wanted, sent) =
    (text, record { image = image; is_image = is; text_is = wanted }, sent)
at_entry settings file image OutOfMemory old new is (inl kept) = inl kept
at_entry settings file image OutOfMemory old new is (inr (text, wanted, sent)) =
    inr (text, record { image = image; is_image = is; text_is = wanted }, sent)
at_entry settings file image (Flow fault) old new is (refused, kept) =
    (record { image = image; is_image = is; refused = refused }, kept)
at_entry settings file image (TooManyBlocks set count) old new is (many, kept) =
    (record { image = image; is_image = is; too_much = many }, kept)
at_entry settings file image Usage old new is reported = absurd reported
at_entry settings file image ReadFault old new is reported = absurd reported
at_entry settings file image FileTooBig old new is reported = absurd reported
at_entry settings file image (Elf fault) old new is reported = absurd reported

-- what a status says of the program of a file
pub program_reported : (settings : Settings) (file : List ℕ) (image : Image) (entry : ℕ) (status : Status)
    (old new : Option (List ℕ))
    → image_of file ≡ Ok image → entry ≡ entry_of settings image
    → SaysOfProgram settings.ask (program_for settings.ask image entry) status old new
    → Tells settings file status old new
program_reported settings file image entry status old new is same reported =
    at_entry settings file image status old new is (subst
    (λ (entry : ℕ). SaysOfProgram settings.ask (program_for settings.ask image entry) status old new) same reported)
