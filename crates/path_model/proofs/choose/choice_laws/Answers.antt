use Rattle.path_model.proofs.Choices.{choices-unique}
use Rattle.path_model.proofs.OnePath.{followed-same}
use Rattle.path_model.proofs.choose.choice_laws.Goals as goal

pub returns-clause-one_path : goal.returns-clause-one_path
returns-clause-one_path c = followed-same

pub returns-clause-one_list : goal.returns-clause-one_list
returns-clause-one_list c = choices-unique
