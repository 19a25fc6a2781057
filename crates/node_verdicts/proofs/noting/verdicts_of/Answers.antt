use Rattle.std.proofs.Common.{ℕ, ◌++◌, ◌-◌, [], List, take, sym, ap, ◌∙◌, subst}
use Rattle.std.proofs.lemmas.List.Elements.{Contains-push}
use Rattle.std.specs.List.{Contains}
use Rattle.node_verdicts.specs.declared.judged.Judged.{Judged}
use Rattle.node_verdicts.specs.Noted.{IsHeadVerdict}
use Rattle.node_verdicts.proofs.Matched.{matching_none, matching_more, matching_all}
use Rattle.node_verdicts.proofs.noting.verdicts_of.Goals as goal

pub head_verdict-requires : goal.head_verdict-requires
head_verdict-requires c =
    c.requires c.in-Some.one (c.loop-one.invariant.within c.in-Some.one
    (subst (λ (xs : List Judged). Contains xs c.in-Some.one) (sym c.in-Some.ensures.items)
    (Contains-push c.pop.new.self.items c.in-Some.one)))

pub loop-one-init : goal.loop-one-init
loop-one-init c =
    matching_none (IsHeadVerdict c.args.blocks.now) c.args.judged.items c.in_ok-heads.heads.items c.in_ok-heads.ensures.items

pub loop-one-preserved : goal.loop-one-preserved
loop-one-preserved c =
    matching_more (IsHeadVerdict c.args.blocks.now) c.args.judged.items c.loop-one.left.items c.pop.new.self.items
    c.loop-one.heads.items c.push.new.self.items c.in-Some.one c.in_ok-head_verdict.field-0 c.in-Some.ensures.items
    c.in_ok-push.ensures.items c.in_ok-head_verdict.ensures c.loop-one.invariant

pub returns : goal.returns
returns c =
    let left = c.loop-one.left.items in
    matching_all (IsHeadVerdict c.args.blocks.now) c.args.judged.items left c.loop-one.heads.items
    (c.in_default.ensures.items ∙ ap (λ (xs : List Judged). xs ++ []) (c.in_default.ensures.rest
    ∙ ap (λ (n : ℕ). take (n - 1) left) c.in_default.ensures.cases.0))
    c.loop-one.invariant
