use Rattle.std.proofs.Common.{ap, ◌∙◌}
use Rattle.command_spec.specs.Plain.{is_plain}
use Rattle.command_spec.proofs.Options.{plain_from, plain_to, has_from, has_to, value_from, value_to}
use Rattle.command_spec.proofs.laws.options_laws.Goals as goal

pub returns : goal.returns
returns c = record {
  plain = λ kinds arguments. (
    plain_to kinds arguments,
    λ written. ap (is_plain kinds) written.2 ∙ plain_from kinds written.0 written.1,
  );
  value = λ kinds options name value are.
      (value_to kinds options name value are, value_from kinds options name value are);
  has = λ kinds options name are. (has_to kinds options name are, has_from kinds options name are);
}
