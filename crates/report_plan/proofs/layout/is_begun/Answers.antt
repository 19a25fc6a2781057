use Rattle.std.proofs.Common.{◌≡◌, ℕ, ◌<◌, List, length, refl, sym, ◌∙◌, subst}
use Rattle.std.specs.List.{Contains}
use Rattle.std.specs.Prelude.{slice_index}
use Rattle.std.proofs.lemmas.Bool.{true≢false}
use Rattle.std.proofs.lemmas.List.{take_all}
use Rattle.std.proofs.lemmas.List.Elements.{Contains-get_or}
use Rattle.call_expand.specs.Expansion.{numbered}
use Rattle.node_spec.specs.Plan.{Layout}
use Rattle.report_plan.proofs.Begun.{begun-by, none-begun}
use Rattle.report_plan.proofs.layout.is_begun.Goals as goal

pub config-requires : goal.config-requires
config-requires c =
    let n = slice_index c.nodes_of-node-items.result.now c.loop-node.node-index in
    let at = (c.nodes_of-node-items.ensures.here n).0
    (Contains-get_or c.nodes_of-node-items.result.now c.loop-node.node-index 0 c.loop-node-test.true) in
    let P : Layout → Type 0 = λ l. n < length l.nodes in
    subst P (sym c.layout.view_is) at.inside

pub returns-then-config-eq0 : goal.returns-then-config-eq0
returns-then-config-eq0 c =
    let n = slice_index c.nodes_of-node-items.result.now c.loop-node.node-index in
    let at = (c.nodes_of-node-items.ensures.here n).0
    (Contains-get_or c.nodes_of-node-items.result.now c.loop-node.node-index 0 c.loop-node-test.true) in
    let P : Layout → Type 0 = λ l. (numbered l.configurations n).part ≡ 0 in
    let first = subst P c.layout.view_is (sym c.config.ensures.part ∙ c.if-config-eq0.true) in
    (λ yes. begun-by _ _ _ n c.nodes_of-node-items.ensures.fetched at first, λ begun. refl)

pub returns : goal.returns
returns c =
    let here = c.nodes_of-node-items.result.now in
    let P : List ℕ → Type 0 =
    λ here. (n : ℕ) → Contains here n → (numbered c.args.layout.now.configurations n).part ≡ 0 → ⊥ in
    let none = subst P (take_all c.loop-node.node-index here c.loop-node-test.false) c.loop-node.invariant in (
      λ no. absurd (true≢false (sym no)),
      λ begun. absurd (none-begun _ _ _ c.nodes_of-node-items.ensures.fetched
          (λ n at first. none n ((c.nodes_of-node-items.ensures.here n).1 at) first) begun),
    )
