use Rattle.std.proofs.Common.{append_assoc, codes}
use Rattle.top_words.specs.FaultText.{counted, elf_text}
use Rattle.top_words.proofs.fault_text.push_elf.Goals as goal

pub returns-in-Truncated-clause-text : goal.returns-in-Truncated-clause-text
unfolding elf_text
returns-in-Truncated-clause-text c =
    rw (c.in-Truncated.is, c.push_counted-in-Truncated.ensures.text, c.push_counted.ensures.text)
    (append_assoc c.args.text.now (counted (codes "truncated: need ") c.in-Truncated.need)
    (counted (codes ", have ") c.in-Truncated.have))

pub returns-in-NotClass32-clause-text : goal.returns-in-NotClass32-clause-text
unfolding elf_text
returns-in-NotClass32-clause-text c = rw c.in-NotClass32.is c.push-in-NotClass32.ensures.text

pub returns-in-BadVersion-clause-text : goal.returns-in-BadVersion-clause-text
unfolding elf_text
returns-in-BadVersion-clause-text c = rw c.in-BadVersion.is c.push-in-BadVersion.ensures.text

pub returns-in-NotExecutable-clause-text : goal.returns-in-NotExecutable-clause-text
unfolding elf_text
returns-in-NotExecutable-clause-text c = rw c.in-NotExecutable.is c.push_counted-in-NotExecutable.ensures.text

pub returns-in-NotRiscv-clause-text : goal.returns-in-NotRiscv-clause-text
unfolding elf_text
returns-in-NotRiscv-clause-text c = rw c.in-NotRiscv.is c.push_counted-in-NotRiscv.ensures.text

pub returns-in-SegmentOutside-clause-text : goal.returns-in-SegmentOutside-clause-text
unfolding elf_text
returns-in-SegmentOutside-clause-text c = rw c.in-SegmentOutside.is c.push_segment.ensures.text

pub returns-in-NoText-clause-text : goal.returns-in-NoText-clause-text
unfolding elf_text
returns-in-NoText-clause-text c = rw c.in-NoText.is c.push-in-NoText.ensures.text
