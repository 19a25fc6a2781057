use Rattle.std.proofs.Common.{length, subst}
use Rattle.node_verdicts.specs.Aged.{Aged, AreAges}
use Rattle.node_verdicts.proofs.Looked.{looked_none, unclear_none}
use Rattle.node_verdicts.proofs.Opened.{none_open}
use Rattle.node_verdicts.proofs.one_set.judge_opened.Goals as goal

pub returns-then-are_none-clause-judged : goal.returns-then-are_none-clause-judged
returns-then-are_none-clause-judged c =
    let a : Aged = c.args.ages.now in
    let are : AreAges a = subst AreAges c.ages.view_is c.ages.invariant in
    looked_none a c.args.kept (length a.view.blocks) c.none.result.judged.items c.none.ensures.judged
    (λ block n below. none_open a are c.args.fetches.now c.requires (c.are_none.ensures.0 c.if-are_none.true) block n)

pub returns-then-are_none-clause-unclear : goal.returns-then-are_none-clause-unclear
returns-then-are_none-clause-unclear c =
    let a : Aged = c.args.ages.now in
    let are : AreAges a = subst AreAges c.ages.view_is c.ages.invariant in
    unclear_none a are (length a.view.blocks) c.none.result.unclear.items c.none.ensures.unclear
    (λ block n below. none_open a are c.args.fetches.now c.requires (c.are_none.ensures.0 c.if-are_none.true) block n)
