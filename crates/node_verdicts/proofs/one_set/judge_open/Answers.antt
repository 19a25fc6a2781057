use Rattle.std.proofs.Common.{◌≡◌, ℕ, List, get_or, length, ap, ◌∙◌, subst, arith}
use Rattle.std.specs.List.{Contains}
use Rattle.std.proofs.lemmas.List.Elements.{Contains-get_or}
use Rattle.cache_spec.specs.declared.start.Start.{Start}
use Rattle.path_model.specs.Graph.{address_of}
use Rattle.set_view.specs.View.{View}
use Rattle.node_verdicts.specs.Aged.{Aged, AreAges, IsOpen}
use Rattle.node_verdicts.specs.Judged.{IsEnds, addresses_with}
use Rattle.node_verdicts.specs.Witnesses.{view_of}
use Rattle.node_verdicts.proofs.Block.{so_far_none, so_far_more, fetch_inside}
use Rattle.node_verdicts.proofs.Listed.{listed_none, listed_to, listed_more, listed_all}
use Rattle.node_verdicts.proofs.one_set.judge_open.Goals as goal

pub address_of-at-requires : goal.address_of-at-requires
address_of-at-requires c =
    let a : Aged = c.args.ages.now in
    let are : AreAges a = subst AreAges c.ages.view_is c.ages.invariant in
    let node = get_or c.args.nodes.now c.loop-node.node-index 0 in
    let is : IsOpen a c.args.block node =
    (c.requires.nodes.members node).0
    (Contains-get_or c.args.nodes.now c.loop-node.node-index 0 c.loop-node-test.true) in
    omega (
      arith,
      fetch_inside a.view.fetches node c.args.block is.fetches,
      are.is_view.one_each,
      ap (λ (b : Aged). length b.view.nodes) c.ages.view_is,
    )

pub ends_at-requires : goal.ends_at-requires
ends_at-requires c =
    let node = get_or c.args.nodes.now c.loop-node.node-index 0 in
    c.requires.witnesses.known node
    ((c.requires.nodes.members node).0 (Contains-get_or c.args.nodes.now c.loop-node.node-index 0 c.loop-node-test.true))

pub loop-node-init : goal.loop-node-init
loop-node-init c =
    let a : Aged = c.args.ages.now in
    let addresses = c.new-addresses.result.items in
    let judged = c.new-judged.result.items in
    listed_none a c.args.kept c.args.block c.args.nodes.now addresses judged
    (so_far_none a.view a.start c.args.kept (IsOpen a c.args.block) addresses judged c.new-addresses.ensures.items
    c.new-judged.ensures.items)

pub loop-node-preserved : goal.loop-node-preserved
loop-node-preserved c =
    let a : Aged = c.args.ages.now in
    let view = a.view in
    let nodes = c.args.nodes.now in
    let place = c.loop-node.node-index in
    let node = get_or nodes place 0 in
    let is : IsOpen a c.args.block node =
    (c.requires.nodes.members node).0 (Contains-get_or nodes place 0 c.loop-node-test.true) in
    let ends = c.in_ok-ends.ends in
    let right =
    subst (λ (v : View). IsEnds v.nodes v.geometry a.start node ends) c.requires.witnesses.view
    (subst (λ (s : Start). IsEnds (view_of c.args.witnesses.now).nodes (view_of c.args.witnesses.now).geometry s node
    ends) c.requires.witnesses.start c.in_ok-ends.ensures.ends) in
    let addresses = c.loop-node.addresses.items in
    let judged = c.loop-node.judged.items in
    let at_is : c.address_of-at.result ≡ address_of view.nodes node =
    c.address_of-at.ensures ∙ ap (λ (b : Aged). address_of b.view.nodes node) c.ages.view_is in
    listed_more a c.args.kept c.args.block nodes c.requires.nodes place addresses c.add.new.addresses.items judged
    c.add.new.judged.items c.loop-node.invariant c.loop-node-test.true
    (so_far_more view a.start c.args.kept (IsOpen a c.args.block) node addresses judged
    (listed_to a c.args.kept c.args.block nodes c.requires.nodes place addresses judged c.loop-node.invariant
    c.loop-node-test.true) is ends right
    (λ none.
    let spared = c.wants.ensures (c.in_ok-ends.ensures.spared none) in (
      spared.0,
      subst (λ (at : ℕ). Contains addresses at) at_is
          (subst (λ (xs : List ℕ). Contains xs c.address_of-at.result) c.deref.ensures.value spared.1),
    ))
    c.add.new.judged.items c.add.new.addresses.items c.in_ok-add.ensures.judged
    (c.in_ok-add.ensures.addresses ∙ ap (λ (at : ℕ). addresses_with ends at addresses) at_is))

pub returns : goal.returns
returns c =
    listed_all c.args.ages.now c.args.kept c.args.block c.args.nodes.now c.requires.nodes c.loop-node.node-index
    c.loop-node.addresses.items c.loop-node.judged.items c.loop-node.invariant
    (omega (arith, c.loop-node-test.false, c.loop-node.auto.node-index-end))
