use Rattle.std.proofs.Common.{◌≡◌, ◌+◌, ◌∙◌, ℕ, true, false, List, Vec, Global, Some, length, sym, ap, subst, arith}
use Rattle.std.specs.List.{Contains}
use Rattle.cache_spec.specs.declared.start.Start.{Start}
use Rattle.focus_spec.specs.Younger.{fetch_at}
use Rattle.set_view.specs.View.{View, IsView}
use Rattle.focus_plain.specs.Judged.{Judged as Searched}
use Rattle.node_verdicts.specs.declared.judged.Judged.{Judged}
use Rattle.node_verdicts.specs.Judged.{IsEnds, addresses_with}
use Rattle.node_verdicts.proofs.Block.{AreSoFar, so_far_none, so_far_passed, so_far_more, so_far_all, fetch_inside}
use Rattle.node_verdicts.proofs.one_block.search_local.Goals as goal
use Rattle.node_verdicts.proofs.one_block.search_local.Goals.{then-fetches+in_ok-ends+in_ok-add, else-fetches}

pub searched_ends-requires : goal.searched_ends-requires
searched_ends-requires c =
    subst (λ (v : View). fetch_at v.fetches c.loop-node.node ≡ Some c.in_ok-found.found.block)
    (sym c.in_ok-found.ensures.view)
    (c.fetches.ensures.0 c.if-fetches.true ∙ ap Some (sym c.in_ok-found.ensures.block))

pub loop-node-init : goal.loop-node-init
loop-node-init c =
    so_far_none c.args.view.now c.args.start c.args.kept (λ n. fetch_at c.args.view.now.fetches n ≡ Some c.args.block)
    c.new-addresses.result.items c.new-judged.result.items c.new-addresses.ensures.items c.new-judged.ensures.items

pub loop-node-preserved : goal.loop-node-preserved
loop-node-preserved c =
    let view = c.args.view.now in
    let node = c.loop-node.node in
    let Within : ℕ → Type 0 = λ n. fetch_at view.fetches n ≡ Some c.args.block in
    let addresses = c.loop-node.addresses.items in
    let judged = c.loop-node.judged.items in
    elim c.if-fetches.branch [
      | then-fetches+in_ok-ends+in_ok-add w ↦
          let ends = w.in_ok-ends.ends in
          let right =
          subst (λ (v : View). IsEnds v.nodes v.geometry c.args.start node ends) c.in_ok-found.ensures.view
          (subst (λ (s : Start). IsEnds c.in_ok-found.found.view.nodes c.in_ok-found.found.view.geometry s node ends)
          c.in_ok-found.ensures.start w.in_ok-ends.ensures.ends) in
          so_far_more view c.args.start c.args.kept Within node addresses judged c.loop-node.invariant
          (c.fetches.ensures.0 w.if-fetches.true) ends right
          (λ none.
          let spared = w.wants.ensures (w.in_ok-ends.ensures.spared none) in (
            spared.0,
            subst (λ (at : ℕ). Contains addresses at) w.address_of-at.ensures
                (subst (λ (xs : List ℕ). Contains xs w.address_of-at.result) w.deref.ensures.value spared.1),
          ))
          c.if-fetches.judged.items c.if-fetches.addresses.items
          (ap (λ (v : Vec Judged Global). v.items) w.judged-is ∙ w.in_ok-add.ensures.judged)
          (ap (λ (v : Vec ℕ Global). v.items) w.addresses-is ∙ (w.in_ok-add.ensures.addresses
          ∙ ap (λ (at : ℕ). addresses_with ends at addresses) w.address_of-at.ensures))
      | else-fetches w ↦
          subst (λ (v : Vec ℕ Global). AreSoFar view c.args.start c.args.kept Within (node + 1) v.items
          c.if-fetches.judged.items) (sym w.addresses-is)
          (subst (λ (v : Vec Judged Global). AreSoFar view c.args.start c.args.kept Within (node + 1) addresses v.items)
          (sym w.judged-is)
          (so_far_passed view c.args.start c.args.kept Within node addresses judged c.loop-node.invariant
          (λ is. let yes : true ≡ false = sym (c.fetches.ensures.1 is) ∙ w.if-fetches.false in absurd (cc))))
    ]

pub returns : goal.returns
returns c =
    let view = c.args.view.now in
    let is : IsView view = subst IsView (ap (λ (f : Searched). f.view) c.found.view_is ∙ c.in_ok-found.ensures.view) c.found.invariant.is_view in
    let count : length c.nodes.result.now ≡ length view.nodes =
    ap length (c.nodes.ensures.same ∙ c.graph.ensures.same) in
    let all : length view.fetches ≡ c.loop-node.node =
    omega (arith, count, is.one_each, is.graph.few, c.loop-node-test.false, c.loop-node.auto.node-end) in
    so_far_all view c.args.start c.args.kept (λ n. fetch_at view.fetches n ≡ Some c.args.block) c.loop-node.node
    c.loop-node.addresses.items c.loop-node.judged.items c.loop-node.invariant
    (λ n fetches. omega (arith, all, fetch_inside view.fetches n c.args.block fetches))
