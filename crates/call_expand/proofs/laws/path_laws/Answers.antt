use Rattle.call_expand.proofs.Paths.{path_to, path_from, choices_to, choices_from, path_addresses}
use Rattle.call_expand.proofs.laws.path_laws.Goals as goal

pub returns : goal.returns
returns c = record {
  path = λ step entry configurations nodes members is. path_to step entry configurations nodes is members;
  members = λ step entry configurations nodes path is. path_from step entry configurations nodes is path;
  choices = λ step entry configurations nodes members choices is path. (
    choices_to step entry configurations nodes is members choices path,
    choices_from step entry configurations nodes is members choices path,
  );
  addresses = λ step entry configurations nodes members is. path_addresses step entry configurations nodes is members;
}
