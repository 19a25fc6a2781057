use Rattle.icache_top.proofs.OneAnswer.{one_status, one_text}
use Rattle.icache_top.proofs.OneJobs.{one_records}
use Rattle.icache_top.proofs.laws.answer_laws.Goals as goal

pub returns : goal.returns
returns c = record {
  status = λ words file status other old new before now. one_status words file status other old new before now;
  text = λ settings file text other. one_text settings file text other;
  jobs = λ settings file records others. one_records settings file records others;
}
