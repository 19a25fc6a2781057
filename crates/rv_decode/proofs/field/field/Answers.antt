use Rattle.std.proofs.Common.{◌^◌, ◌-◌, ◌/◌, bit_and, ap, ◌∙◌}
use Rattle.std.proofs.lemmas.Nat.{one_shl, and_mask}
use Rattle.rv_decode.proofs.field.field.Goals as goal

pub returns-clause-value : goal.returns-clause-value
returns-clause-value c =
    ap (λ mask. bit_and (c.args.word / 2 ^ c.args.low) (mask - 1)) (one_shl c.args.count 32 c.requires.not_whole)
    ∙ and_mask (c.args.word / 2 ^ c.args.low) c.args.count
