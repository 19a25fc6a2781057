use Rattle.std.proofs.Common.{get_or, not, None, ap, ◌∙◌}
use Rattle.focus_plain.proofs.Noted.{none_there, some_there, noted_new, noted_same}
use Rattle.focus_plain.proofs.ends.note.Goals as goal

pub returns-then-is_none : goal.returns-then-is_none
returns-then-is_none c =
    noted_new c.args.ends.now c.args.node c.args.number c.requires
    (none_there (get_or c.args.ends.now c.args.node None) (c.is_none.ensures ∙ ap not c.if-is_none.true))

pub returns-else-is_none : goal.returns-else-is_none
returns-else-is_none c =
    let first = some_there (get_or c.args.ends.now c.args.node None) (c.is_none.ensures ∙ ap not c.if-is_none.false) in
    noted_same c.args.ends.now c.args.node c.args.number first.0 first.1
