use Rattle.std.proofs.Common.{IfOk, sym, subst}
use Rattle.node_verdicts.specs.Judged.{IsEnds}
use Rattle.node_verdicts.specs.declared.witnesses.Witnesses.{Witnesses}
use Rattle.node_verdicts.specs.Witnesses.{view_of, start_of}
use Rattle.node_verdicts.proofs.witnesses.ends_at.Goals as goal

pub returns-in-Firsts-clause-ends : goal.returns-in-Firsts-clause-ends
returns-in-Firsts-clause-ends c =
    subst (λ (w : Witnesses). IfOk c.first_ends.result
    (IsEnds (view_of w).nodes (view_of w).geometry (start_of w) c.args.node)) (sym c.in-Firsts.is)
    c.first_ends.ensures.ends

pub returns-in-Bounds-clause-ends : goal.returns-in-Bounds-clause-ends
returns-in-Bounds-clause-ends c =
    subst (λ (w : Witnesses). IfOk c.shown_ends.result
    (IsEnds (view_of w).nodes (view_of w).geometry (start_of w) c.args.node)) (sym c.in-Bounds.is)
    c.shown_ends.ensures.ends
