-- The codes of statuses, and the status that each fault is.
use Rattle.std.specs.Prelude.{ℕ}
use Rattle.elf_spec.specs.declared.fault.ElfFault.{ElfFault}
use Rattle.elf_spec.specs.declared.fault.ElfFault.TheVariants as elf
use Rattle.flow_spec.specs.declared.fault.FlowFault.{FlowFault}
use Rattle.flow_spec.specs.declared.fault.FlowFault.TheVariants as flow
use Rattle.byte_port.specs.declared.SinkFault.{SinkFault}
use Rattle.byte_port.specs.declared.SinkFault.TheVariants as sink
use Rattle.byte_port.specs.declared.streams.ReadStop.{ReadStop}
use Rattle.byte_port.specs.declared.streams.ReadStop.TheVariants as stops
use Rattle.top_words.specs.declared.status.Status.{Status}
use Rattle.top_words.specs.declared.status.Status.TheVariants.{Done, Usage, OutOfMemory, ReadFault, WriteFault, FileTooBig, Elf, Flow, TooManyBlocks}

abbrev pub code_of : Status → ℕ
code_of Done = 0
code_of Usage = 2
code_of OutOfMemory = 3
code_of ReadFault = 4
code_of WriteFault = 5
code_of (Elf fault) = 6
code_of FileTooBig = 8
code_of (TooManyBlocks set count) = 8
code_of (Flow (flow.TooManyFetches limit)) = 8
code_of (Flow fault) = 7

-- out of memory is a status of its own, and never inside another
abbrev pub KeepsMemoryApart : Status → Type 0
KeepsMemoryApart (Elf elf.OutOfMemory) = ⊥
KeepsMemoryApart (Flow flow.OutOfMemory) = ⊥
KeepsMemoryApart status = Unit {0}

abbrev pub of_stop : ReadStop → Status
of_stop stops.Failed = ReadFault
of_stop stops.TooBig = FileTooBig
of_stop stops.OutOfMemory = OutOfMemory

abbrev pub of_elf : ElfFault → Status
of_elf elf.OutOfMemory = OutOfMemory
of_elf fault = Elf fault

abbrev pub of_flow : FlowFault → Status
of_flow flow.OutOfMemory = OutOfMemory
of_flow fault = Flow fault

abbrev pub of_sink : SinkFault → Status
of_sink sink.Failed = WriteFault
of_sink sink.OutOfMemory = OutOfMemory
