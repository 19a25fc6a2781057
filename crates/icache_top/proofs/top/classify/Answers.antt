use Rattle.std.proofs.Common.{◌≡◌, ℕ, sym, ap, ◌∙◌, subst, List}
use Rattle.std.specs.Prelude.{Option, IfErr}
use Rattle.std.specs.Io.KnownBytes.{Appends}
use Rattle.byte_port.specs.Stream.{SendsPrefix}
use Rattle.path_model.specs.declared.graph.Node.{Node}
use Rattle.node_verdicts.specs.Verdicts.{IsFault}
use Rattle.command_spec.specs.declared.settings.Ask.TheVariants.{Report}
use Rattle.elf_spec.specs.Image.{Image}
use Rattle.flow_spec.specs.Program.{program}
use Rattle.command_spec.specs.declared.settings.ReportAsk.{ReportAsk}
use Rattle.top_words.specs.declared.status.Status.{Status}
use Rattle.top_words.specs.declared.status.Status.TheVariants.{Done}
use Rattle.age_spec.specs.Jobs.{AreJobs}
use Rattle.icache_top.specs.declared.outcome.JobRecord.{JobRecord}
use Rattle.icache_top.specs.Answer.{IsAcceptedWith, SaysOfProgram, program_for}
use Rattle.icache_top.specs.JobRecords.{AreRecordsFrom, records_of}
use Rattle.icache_top.proofs.SendsFor.{flow_reported, settled_reported, sent_reported, handed_on}
use Rattle.icache_top.proofs.Reported.{many, found_now, wanted_now, err_weaker, ok_at, settled_ok}
use Rattle.icache_top.proofs.Recorded.{expanded_records}
use Rattle.icache_top.proofs.top.classify.Goals as goal

-- what is said of a program with lines of the geometry's size
at_line : (image : Image) (ask : ReportAsk) (line entry : ℕ) (status : Status) (old new : Option (List ℕ))
    → line ≡ ask.geometry.line
    → SaysOfProgram (Report ask) (program image ask.isa line entry) status old new
    → SaysOfProgram (Report ask) (program_for (Report ask) image entry) status old new
at_line image ask line entry status old new same said =
    subst (λ (line : ℕ). SaysOfProgram (Report ask) (program image ask.isa line entry) status old new) same said

pub returns-in_err-expanded-clause-reported : goal.returns-in_err-expanded-clause-reported
returns-in_err-expanded-clause-reported g c =
    at_line c.args.image.now c.args.ask.now c.line.result c.args.entry _ _ _ c.line.ensures.value
    (flow_reported _ _ _ (g.O.Sink.sent c.args.out.now) c.in_err-expanded.field-0.0 c.from_residual.result
    c.in_err-expanded.ensures.refused c.from_residual.ensures.1)

pub returns-in_err-settled-clause-reported : goal.returns-in_err-settled-clause-reported
returns-in_err-settled-clause-reported g c =
    let status = c.in_err-settled.field-0.0 in
    let ask = c.args.ask.now in
    let fault = subst (λ (nodes : List Node). IfErr c.node_verdicts.result (IsFault nodes ask.geometry))
    c.graph.ensures.same c.node_verdicts.ensures.fault in
    at_line c.args.image.now c.args.ask.now c.line.result c.args.entry _ _ _ c.line.ensures.value
    (handed_on _ _ _ (g.O.Sink.sent c.args.out.now) status c.from_residual-in_err-settled.result
    c.from_residual-in_err-settled.ensures.1
    (settled_reported _ _ _ (g.O.Sink.sent c.args.out.now) c.node_verdicts.result status
    (sym c.settled.ensures ∙ c.in_err-settled.was)
    (err_weaker _ _ (many (program c.args.image.now c.args.ask.now.isa c.line.result c.args.entry) ask c.in_ok-expanded.expanded
    c.in_ok-expanded.ensures.accepted c.in_ok-expanded.ensures.graph) c.node_verdicts.result fault)))

pub send_report-requires : goal.send_report-requires
send_report-requires g c = (
  c.line.result,
  c.args.entry,
  c.args.ask.now.geometry,
  c.args.ask.now.start,
  found_now (program c.args.image.now c.args.ask.now.isa c.line.result c.args.entry) c.args.ask.now c.in_ok-expanded.expanded c.in_ok-expanded.ensures.accepted
      c.in_ok-expanded.ensures.graph (λ v. v.verdicts.items) c.graph.result.now c.node_verdicts.result c.in_ok-settled.settled
      c.deref-2.result.now
      (sym c.settled.ensures ∙ c.in_ok-settled.was) c.deref-2.ensures.value c.graph.ensures.same c.requires.within
      c.node_verdicts.ensures.one_each c.node_verdicts.ensures.right c.kept_for-kept.result c.kept_for-kept.ensures
      c.node_verdicts.ensures.ways,
)

pub returns-in_err-send_report-clause-reported : goal.returns-in_err-send_report-clause-reported
returns-in_err-send_report-clause-reported g c =
    let (text, is_wanted, part) = wanted_now (program c.args.image.now c.args.ask.now.isa c.line.result c.args.entry) c.args.ask.now c.in_ok-expanded.expanded
    c.in_ok-expanded.ensures.accepted c.in_ok-expanded.ensures.graph (λ v. v.verdicts.items) c.graph.result.now
    c.node_verdicts.result
    c.in_ok-settled.settled c.deref-2.result.now (sym c.settled.ensures ∙ c.in_ok-settled.was) c.deref-2.ensures.value
    c.graph.ensures.same
    c.requires.within c.node_verdicts.ensures.one_each c.node_verdicts.ensures.right c.kept_for-kept.result c.kept_for-kept.ensures
    c.node_verdicts.ensures.ways c.node_verdicts.ensures.few
    (SendsPrefix (g.O.Sink.sent c.args.out.now) (g.O.Sink.sent c.send_report.new.out))
    c.in_err-send_report.ensures.part in
    at_line c.args.image.now c.args.ask.now c.line.result c.args.entry _ _ _ c.line.ensures.value
    (sent_reported _ _ _ _ _ text c.in_err-send_report.field-0.0 c.from_residual-in_err-send_report.result is_wanted part
    c.from_residual-in_err-send_report.ensures.1)

pub returns-clause-reported : goal.returns-clause-reported
returns-clause-reported g c =
    at_line c.args.image.now c.args.ask.now c.line.result c.args.entry Done
    (g.O.Sink.sent c.args.out.now) (g.O.Sink.sent c.send_report.new.out) c.line.ensures.value
    (wanted_now (program c.args.image.now c.args.ask.now.isa c.line.result c.args.entry) c.args.ask.now c.in_ok-expanded.expanded c.in_ok-expanded.ensures.accepted
    c.in_ok-expanded.ensures.graph (λ v. v.verdicts.items) c.graph.result.now c.node_verdicts.result c.in_ok-settled.settled
    c.deref-2.result.now
    (sym c.settled.ensures ∙ c.in_ok-settled.was) c.deref-2.ensures.value c.graph.ensures.same c.requires.within
    c.node_verdicts.ensures.one_each c.node_verdicts.ensures.right c.kept_for-kept.result c.kept_for-kept.ensures
    c.node_verdicts.ensures.ways c.node_verdicts.ensures.few
    (Appends (g.O.Sink.sent c.args.out.now) (g.O.Sink.sent c.send_report.new.out)) c.in_ok-send_report.ensures.whole)

-- the records of a program with lines of the geometry's size
records_at_line : (image : Image) (ask : ReportAsk) (line entry : ℕ) (records : List JobRecord)
    → line ≡ ask.geometry.line
    → IsAcceptedWith (program image ask.isa line entry)
    (λ layers. AreRecordsFrom (Report ask) (program image ask.isa line entry) layers records)
    → IsAcceptedWith (program_for (Report ask) image entry)
    (λ layers. AreRecordsFrom (Report ask) (program_for (Report ask) image entry) layers records)
records_at_line image ask line entry records same wanted =
    subst (λ (line : ℕ). IsAcceptedWith (program image ask.isa line entry)
    (λ layers. AreRecordsFrom (Report ask) (program image ask.isa line entry) layers records)) same wanted

pub returns-clause-jobs : goal.returns-clause-jobs
returns-clause-jobs g c =
    let ask = c.args.ask.now in
    let found = settled_ok c.node_verdicts.result c.in_ok-settled.settled (sym c.settled.ensures ∙ c.in_ok-settled.was) in
    let there = ok_at (λ s. AreJobs c.graph.result.now ask.geometry ask.start s.jobs.items) c.node_verdicts.result
    c.in_ok-settled.settled found c.node_verdicts.ensures.jobs in
    let jobs = subst (λ (nodes : List Node). AreJobs nodes ask.geometry ask.start c.in_ok-settled.settled.jobs.items)
    c.graph.ensures.same there in
    records_at_line c.args.image.now ask c.line.result c.args.entry c.in_ok-jobs.jobs c.line.ensures.value
    (expanded_records (program c.args.image.now ask.isa c.line.result c.args.entry) ask c.in_ok-expanded.expanded
    c.in_ok-settled.settled.jobs.items c.in_ok-jobs.jobs c.in_ok-expanded.ensures.accepted c.in_ok-expanded.ensures.graph
    jobs (c.in_ok-jobs.ensures ∙ ap records_of c.deref.ensures.value))
