use Rattle.std.proofs.Common.{◌≡◌, ◌<◌, ℕ, List, length, inl, inr, refl, sym, ap, ◌∙◌, arith}
use Rattle.std.proofs.lemmas.Bool.{cases_eq, eqb-true, eq-eqb, both_ways}
use Rattle.std.proofs.lemmas.List.{length-map, nil_from_length}
use Rattle.node_verdicts.specs.Open.{items_of, lists_seen, nodes_of}
use Rattle.node_verdicts.proofs.Opened.{kept_of}
use Rattle.node_verdicts.proofs.open_fetches.OpenFetches.are_none.Goals as goal
use Rattle.node_verdicts.proofs.open_fetches.OpenFetches.are_none.Goals.{After-deref-nodes-items, After-is_empty}

-- the lists are what is kept
seen : (c : After-deref-nodes-items) → lists_seen c.deref-nodes-items.result.now ≡ c.args.self.now
seen c = ap lists_seen c.deref-nodes-items.ensures.value ∙ c.self.view_is

-- and as many
as_many : (c : After-deref-nodes-items) → length c.args.self.now ≡ length c.deref-nodes-items.result.now
as_many c = sym (ap length (seen c)) ∙ length-map c.deref-nodes-items.result.now items_of

-- the list that is looked at is that of its place
placed : (c : After-is_empty) → c.nodes-item.result.items ≡ nodes_of c.args.self.now c.loop-nodes.nodes-index
placed c =
    kept_of c.deref-nodes-items.result.now c.loop-nodes.nodes-index c.nodes-item.result c.loop-nodes-test.true
    c.nodes-item.is
    ∙ ap (λ (lists : List (List ℕ)). nodes_of lists c.loop-nodes.nodes-index)
    (ap lists_seen c.deref-nodes-items.ensures.value ∙ c.self.view_is)

pub loop-nodes-init : goal.loop-nodes-init
loop-nodes-init c = λ k below. absurd (omega (arith, below))

pub loop-nodes-preserved : goal.loop-nodes-preserved
loop-nodes-preserved c = λ k below. elim (cases_eq k c.loop-nodes.nodes-index) [
  | inl here ↦
      let known = (goal.at.loop-nodes-preserved c).After-is_empty in
      let none : length c.nodes-item.result.items ≡ 0 =
      sym c.nodes-item.result.ok.0
      ∙ eqb-true c.nodes-item.result.len 0 (sym c.is_empty.ensures ∙ c.if-not-is_empty.false) in
      ap (nodes_of c.args.self.now) here ∙ (sym (placed known) ∙ nil_from_length c.nodes-item.result.items none)
  | inr before ↦ c.loop-nodes.invariant k (omega (arith, below, before))
]

pub returns-then-not-is_empty : goal.returns-then-not-is_empty
returns-then-not-is_empty c =
    let known = (goal.at.returns-then-not-is_empty c).After-is_empty in
    let first = (goal.at.returns-then-not-is_empty c).After-deref-nodes-items in (
      λ yes. absurd (cc yes),
      λ empty.
          let inside : c.loop-nodes.nodes-index < length c.args.self.now =
          omega (arith, c.loop-nodes-test.true, as_many first) in
          let none : c.nodes-item.result.len ≡ 0 =
          c.nodes-item.result.ok.0 ∙ ap length (placed known ∙ empty c.loop-nodes.nodes-index inside) in
          absurd (both_ways c.is_empty.result c.if-not-is_empty.true
          (c.is_empty.ensures ∙ eq-eqb c.nodes-item.result.len 0 none)),
    )

pub returns : goal.returns
returns c =
    let known = (goal.at.returns c).After-deref-nodes-items in (
      λ _ block inside. c.loop-nodes.invariant block (omega (arith, inside, c.loop-nodes-test.false, as_many known)),
      λ _. refl,
    )
