use Rattle.one_answer.proofs.Readings.{one_reading, texts_alike, lines_alike}
use Rattle.one_answer.proofs.laws.one_reading.Goals as goal

pub returns : goal.returns
returns c = record {
  lines = λ lines others. one_reading lines others;
  alike = λ lines others have have'. (lines_alike lines others have have', texts_alike lines others have have');
}
