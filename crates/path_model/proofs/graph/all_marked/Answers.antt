use Rattle.std.proofs.Common.{sym, ◌∙◌}
use Rattle.path_model.proofs.Marked.{all_set-marked, marked-all_set}
use Rattle.path_model.proofs.graph.all_marked.Goals as goal

pub returns : goal.returns
returns c = (
  λ t m up below. all_set-marked c.args.marks.now c.args.count (sym c.all_set.ensures ∙ t) m up below c.requires.long,
  λ each. c.all_set.ensures ∙ marked-all_set c.args.marks.now c.args.count c.requires.long each,
)
