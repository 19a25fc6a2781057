use Rattle.top_words.specs.declared.status.Status.TheVariants.{Done}
use Rattle.top_words.specs.Views.{bytes_of}
use Rattle.icache_top.proofs.Recorded.{known_records}
use Rattle.icache_top.proofs.top.run.Goals as goal

-- the jobs of the file that was read are those of the bytes that were known
pub returns-in-Ok-clause-known_jobs : goal.returns-in-Ok-clause-known_jobs
returns-in-Ok-clause-known_jobs g c =
    known_records (bytes_of c.args.words.now) Done (g.S.Source.left c.args.source.now)
    (g.S.Source.left c.answer.new.source) c.in-Ok.jobs c.in-Ok.ensures.jobs
