use Rattle.std.proofs.Common.{◌≡◌, ◌∙◌, ℕ, List, sym, ap, subst, length, All}
use Rattle.std.specs.Prelude.{Ok, Option, unwrap_or}
use Rattle.elf_spec.specs.Image.{Image, image_of}
use Rattle.elf_image.specs.Fits.{SegmentFits}
use Rattle.command_spec.specs.declared.settings.Ask.{Ask}
use Rattle.command_spec.specs.declared.settings.Ask.TheVariants.{Report, Graph}
use Rattle.command_spec.specs.declared.settings.Settings.{Settings}
use Rattle.command_spec.specs.Settings.{IsInRange}
use Rattle.top_words.specs.declared.status.Status.{Status}
use Rattle.icache_top.specs.Answer.{SaysOfProgram, Tells, program_for, status_of}
use Rattle.icache_top.proofs.SendsFor.{elf_reported, program_reported}
use Rattle.icache_top.proofs.Within.{within}
use Rattle.icache_top.proofs.top.answer_file.Goals as goal

pub returns-in_err-image-clause-reported : goal.returns-in_err-image-clause-reported
returns-in_err-image-clause-reported g c =
    elf_reported c.args.settings.now c.args.file.items (g.O.Sink.sent c.args.out.now) c.in_err-image.field-0.0
    c.from_residual.result
    c.in_err-image.ensures.fault c.from_residual.ensures.1

abbrev Kept : Image → Type 0
Kept image = All (SegmentFits (length image.file)) image.segments

pub classify-requires-clause-within : goal.classify-requires-clause-within
classify-requires-clause-within g c κs lives =
    within c.in-Report.ask.isa c.in_ok-image.image (subst Kept c.image.view_is c.image.invariant.each)

pub classify-requires-clause-ranges : goal.classify-requires-clause-ranges
classify-requires-clause-ranges g c κs lives = subst IsInRange c.in-Report.is c.requires.ranges

-- what is said of the program is said of the file, where this is what the settings ask for and where it begins
says : (settings : Settings) (file : List ℕ) (image : Image) (own entry : ℕ) (ask : Ask) (status : Status)
    (old new : Option (List ℕ))
    → image_of file ≡ Ok image → own ≡ image.entry → entry ≡ unwrap_or settings.entry own → settings.ask ≡ ask
    → SaysOfProgram ask (program_for ask image entry) status old new → Tells settings file status old new
says settings file image own entry ask status old new is same begins asked said =
    program_reported settings file image entry status old new is (begins ∙ ap (unwrap_or settings.entry) same)
    (subst (λ (ask : Ask). SaysOfProgram ask (program_for ask image entry) status old new) (sym asked) said)

pub returns-in-Report-clause-reported : goal.returns-in-Report-clause-reported
returns-in-Report-clause-reported g c =
    says c.args.settings.now c.args.file.items c.in_ok-image.image c.entry.result c.unwrap_or-entry.result
    (Report c.in-Report.ask) (status_of c.classify.result) _ _ c.in_ok-image.ensures.image c.entry.ensures
    c.unwrap_or-entry.ensures c.in-Report.is c.classify.ensures.reported

pub returns-clause-reported : goal.returns-clause-reported
returns-clause-reported g c =
    says c.args.settings.now c.args.file.items c.in_ok-image.image c.entry.result c.unwrap_or-entry.result
    (Graph c.in-Graph.ask) (status_of c.graph.result) _ _ c.in_ok-image.ensures.image c.entry.ensures
    c.unwrap_or-entry.ensures c.in-Graph.is c.graph.ensures.reported
