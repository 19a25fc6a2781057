-- What standard error gets at each status but `Done`, at which it gets nothing. This project's own texts.
use Rattle.std.specs.Prelude.{ℕ, List, ◌++◌, codes, decimal}
use Rattle.elf_spec.specs.declared.fault.ElfFault.{ElfFault}
use Rattle.elf_spec.specs.declared.fault.ElfFault.TheVariants as elf
use Rattle.flow_spec.specs.declared.fault.FlowFault.{FlowFault}
use Rattle.flow_spec.specs.declared.fault.FlowFault.TheVariants as flow
use Rattle.report_spec.specs.Text.{address_text}
use Rattle.top_words.specs.declared.status.Status.{Status}
use Rattle.top_words.specs.declared.status.Status.TheVariants.{Done, Usage, OutOfMemory, ReadFault, WriteFault, FileTooBig, Elf, Flow, TooManyBlocks}

-- a text with a number after it
abbrev pub counted : List ℕ → ℕ → List ℕ
counted name n = name ++ decimal n

-- a segment, and what is wrong with it
abbrev pub segment_text : ℕ → List ℕ → List ℕ
segment_text index wrong = counted (codes "segment ") index ++ wrong

-- the texts of files that aren't read
unfoldable pub elf_text : ElfFault → List ℕ
elf_text (elf.Truncated need have) = counted (codes "truncated: need ") need ++ counted (codes ", have ") have
elf_text elf.NotElf = codes "not ELF"
elf_text elf.NotClass32 = codes "not ELF class 32"
elf_text elf.NotLittle = codes "not little endian"
elf_text elf.BadVersion = codes "bad ELF version"
elf_text (elf.NotExecutable kind) = counted (codes "not an executable: type ") kind
elf_text (elf.NotRiscv machine) = counted (codes "not RISC-V: machine ") machine
elf_text (elf.BadEntrySize size) = counted (codes "program header size ") size
elf_text (elf.TooManySegments count) = counted (codes "program headers above 64: ") count
elf_text (elf.SegmentOutside index) = segment_text index (codes " outside the file")
elf_text (elf.SegmentWraps index) = segment_text index (codes " wraps")
elf_text (elf.SegmentsOverlap index) = segment_text index (codes " overlaps")
elf_text elf.NoText = codes "no executable segment"
elf_text elf.OutOfMemory = codes "out of memory"

-- a text with an address after it
abbrev pub placed : List ℕ → ℕ → List ℕ
placed name address = name ++ address_text address

-- a target or a word, and where it was met
abbrev pub met_text : List ℕ → ℕ → ℕ → List ℕ
met_text name what at = placed name what ++ placed (codes " at ") at

-- the texts of programs that aren't accepted; the target or the word first, then where it was met
unfoldable pub flow_text : FlowFault → List ℕ
flow_text (flow.BadEntry entry) = placed (codes "bad entry ") entry
flow_text (flow.Illegal at word) = met_text (codes "illegal word ") word at
flow_text (flow.ComputedJump at) = placed (codes "computed jump at ") at
flow_text (flow.BadTarget at target) = met_text (codes "bad target ") target at
flow_text (flow.Recursion at) = placed (codes "recursion at ") at
flow_text (flow.TooManyFetches limit) = counted (codes "fetches above ") limit
flow_text flow.OutOfMemory = codes "out of memory"

abbrev pub usage_text : List ℕ
usage_text =
    codes "usage\n  icache classify [--line N] [--sets N] [--ways N] [--workers N] [--nodes N] [--entry 0xN] [--contexts] [--start empty|any] [--isa rv32i|rv32ic]\n  icache graph [--entry 0xN] [--line N] [--isa rv32i|rv32ic]\n  icache sample --number N [--size N] [--line N] [--sets N] [--ways N] [--workers N] [--nodes N]"

unfoldable pub cause_text : Status → List ℕ
cause_text Done = codes "done"
cause_text Usage = usage_text
cause_text OutOfMemory = codes "out of memory"
cause_text ReadFault = codes "read fault"
cause_text WriteFault = codes "write fault"
cause_text FileTooBig = codes "file above 16777216 bytes"
cause_text (Elf fault) = elf_text fault
cause_text (Flow fault) = flow_text fault
cause_text (TooManyBlocks set count) = counted (codes "set ") set ++ (counted (codes " has ") count ++ codes " blocks")

-- the whole text, its line end included
abbrev pub fault_text : Status → List ℕ
fault_text status = codes "icache: " ++ (cause_text status ++ codes "\n")
