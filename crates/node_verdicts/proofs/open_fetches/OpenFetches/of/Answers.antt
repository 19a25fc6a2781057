use Rattle.std.proofs.Common.{◌≡◌, ◌+◌, ◌<◌, [], ℕ, List, Vec, Global, length, replicate, sym, ap, ◌∙◌, subst, arith}
use Rattle.std.proofs.lemmas.List.{length-map}
use Rattle.std.proofs.lemmas.Option.{none-some}
use Rattle.node_verdicts.specs.Aged.{Aged, AreAges, IsOpen}
use Rattle.node_verdicts.specs.Open.{items_of, lists_seen}
use Rattle.node_verdicts.proofs.Opened.{AreBelow, below_none, below_passed, below_more, below_all}
use Rattle.node_verdicts.proofs.open_fetches.OpenFetches.of.Goals as goal
use Rattle.node_verdicts.proofs.open_fetches.OpenFetches.of.Goals.{in-Some+in_ok-add_to, in_default}

-- each block of an open fetch has a list
has_list : (a : Aged) → AreAges a → (count block : ℕ) (lists : List (Vec ℕ Global))
    → AreBelow a count (lists_seen lists) → IsOpen a block count → block < length lists
has_list a are count block lists below is =
    omega (arith, are.is_view.within count block is.fetches, below.one_each, length-map lists items_of)

pub add_to-requires : goal.add_to-requires
add_to-requires c =
    let a : Aged = c.args.ages.now in
    let are : AreAges a = subst AreAges c.ages.view_is c.ages.invariant in
    has_list a are c.loop-node.node c.in-Some.block c.loop-node.by_block.items c.loop-node.invariant
    ((c.open_at.ensures c.in-Some.block).0 c.in-Some.is)

pub loop-node-init : goal.loop-node-init
loop-node-init c =
    let a : Aged = c.args.ages.now in
    let blocks = c.blocks-2.ensures.same ∙ ap (λ (b : Aged). b.view.blocks) c.ages.view_is in
    below_none a (lists_seen c.in_ok-by_block.by_block.items)
    (c.in_ok-by_block.ensures ∙ ap (λ (count : ℕ). replicate count []) (ap length blocks))

pub loop-node-preserved : goal.loop-node-preserved
loop-node-preserved c =
    let a : Aged = c.args.ages.now in
    let are : AreAges a = subst AreAges c.ages.view_is c.ages.invariant in
    let node = c.loop-node.node in
    let lists = lists_seen c.loop-node.by_block.items in
    elim c.match-open_at.branch [
      | in-Some+in_ok-add_to w ↦
          let block = w.in-Some.block in
          let is : IsOpen a block node = (c.open_at.ensures block).0 w.in-Some.is in
          below_more a node block lists (lists_seen c.match-open_at.by_block.items) c.loop-node.invariant is
          (omega (
            arith,
            has_list a are node block c.loop-node.by_block.items c.loop-node.invariant is,
            length-map c.loop-node.by_block.items items_of,
          ))
          (ap (λ (v : Vec (Vec ℕ Global) Global). lists_seen v.items) w.by_block-is ∙ w.in_ok-add_to.ensures)
      | in_default w ↦
          subst (λ (v : Vec (Vec ℕ Global) Global). AreBelow a (node + 1) (lists_seen v.items)) (sym w.by_block-is)
          (below_passed a node lists c.loop-node.invariant
          (λ block is. none-some block (sym w.in_default.is ∙ (c.open_at.ensures block).1 is)))
    ]

pub returns : goal.returns
returns c =
    let a : Aged = c.args.ages.now in
    let are : AreAges a = subst AreAges c.ages.view_is c.ages.invariant in
    let count : length c.nodes.result.now ≡ length a.view.nodes =
    ap length (c.nodes.ensures.same ∙ c.graph.ensures.same ∙ ap (λ (b : Aged). b.view.nodes) c.ages.view_is) in
    below_all a c.loop-node.node (lists_seen c.loop-node.by_block.items) c.loop-node.invariant
    (omega (
      arith,
      count,
      are.is_view.one_each,
      are.is_view.graph.few,
      c.loop-node-test.false,
      c.loop-node.auto.node-end,
    ))
