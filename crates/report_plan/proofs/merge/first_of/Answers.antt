use Rattle.std.proofs.Common.{ℕ, List, sym, ◌∙◌, subst, refl}
use Rattle.std.specs.List.{Contains}
use Rattle.std.proofs.lemmas.List.{take_all}
use Rattle.std.proofs.lemmas.List.Elements.{Contains-get_or}
use Rattle.std.proofs.lemmas.Option.{slice_get_read}
use Rattle.report_plan.specs.Sources.{IsSought}
use Rattle.report_plan.proofs.AtAddress.{not-sought, none-more}
use Rattle.report_plan.proofs.merge.first_of.Goals as goal

pub bounds-verdicts-node : goal.bounds-verdicts-node
bounds-verdicts-node c = c.requires _ (Contains-get_or c.args.here.now c.loop-node.node-index 0 c.loop-node-test.true)

pub returns-then-is_sought-clause-some : goal.returns-then-is_sought-clause-some
returns-then-is_sought-clause-some c =
    let verdict = c.index-verdicts-node.result in
    let listed = Contains-get_or c.args.here.now c.loop-node.node-index 0 c.loop-node-test.true in
    let inside = c.requires _ listed in
    let has = slice_get_read c.args.verdicts.now _ _ verdict refl inside c.index-verdicts-node.is in
    (listed, (verdict, has, sym c.is_sought.ensures ∙ c.if-is_sought.true))

pub loop-node-preserved : goal.loop-node-preserved
loop-node-preserved c =
    let verdict = c.index-verdicts-node.result in
    let listed = Contains-get_or c.args.here.now c.loop-node.node-index 0 c.loop-node-test.true in
    let inside = c.requires _ listed in
    let has = slice_get_read c.args.verdicts.now _ _ verdict refl inside c.index-verdicts-node.is in
    let never = not-sought c.args.verdicts.now c.args.sought _ verdict has
    (sym c.is_sought.ensures ∙ c.if-is_sought.false) in
    none-more _ _ _ c.loop-node.node-index c.loop-node-test.true c.loop-node.invariant never

pub returns-clause-none : goal.returns-clause-none
returns-clause-none c =
    let P : List ℕ → Type 0 = λ here. (n : ℕ) → Contains here n → IsSought c.args.verdicts.now c.args.sought n → ⊥ in
    subst P (take_all c.loop-node.node-index c.args.here.now c.loop-node-test.false) c.loop-node.invariant
