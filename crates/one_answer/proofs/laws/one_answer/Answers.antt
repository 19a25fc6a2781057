use Rattle.one_answer.proofs.Programs.{accepted_refused, one_numbering, one_fault}
use Rattle.one_answer.proofs.Blocks.{few_in_all_many, one_many}
use Rattle.one_answer.proofs.AcceptedOrRefused.{accepted_or_refused}
use Rattle.one_answer.proofs.FewOrMany.{few_or_many}
use Rattle.one_answer.proofs.laws.one_answer.Goals as goal

pub returns : goal.returns
returns c = record {
  accepted_or_refused = λ step program. accepted_or_refused step program;
  either = λ step program layers fault. accepted_refused step program layers fault;
  numbering = λ step program layers others. one_numbering step program layers others;
  fault = λ step program fault other. one_fault step program fault other;
  few_or_many = λ addresses g. few_or_many addresses g;
  few = λ addresses g set count. few_in_all_many addresses g set count;
  many = λ addresses g set count other number. one_many addresses g set count other number;
}
