-- Both sides compute.
use Rattle.std.proofs.Common.{refl}
use Rattle.std.specs.Fmt.{digits}
use Rattle.hex.specs.Hex.{encode_with}
use Rattle.report_spec.specs.Text.{address_text}
use Rattle.worked_examples.proofs.laws.worked_texts.Goals as goal

pub returns : goal.returns
unfolding address_text encode_with digits
returns c = refl
