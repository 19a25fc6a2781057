use Rattle.std.proofs.Common.{◌∙◌, ap, ◌∷◌, [], ◌++◌, arith}
use Rattle.call_expand.proofs.Ordered.{point}
use Rattle.call_expand.proofs.Finished.{at_begin}
use Rattle.call_expand.proofs.search.begin.Goals as goal

pub returns : goal.returns
returns c =
    let program = c.args.program.now in
    let first = ap (λ at. point at 0 ∷ []) c.entry.ensures in
    let one = c.in_ok-add.ensures ∙ ap (λ ps. ps ++ point c.entry.result 0 ∷ []) c.empty-known.ensures ∙ first in
    at_begin program _ _ _ c.empty.ensures one c.new.ensures.items (omega arith) c.requires
