use Rattle.std.proofs.Common.{◌≡◌, ◌+◌, [], Vec, Global, length, sym, ap, ◌∙◌, subst, arith}
use Rattle.path_model.specs.Graph.{address_of}
use Rattle.node_verdicts.specs.Aged.{Aged, AreAges, IsSettled}
use Rattle.node_verdicts.specs.declared.judged.Judged.{Judged}
use Rattle.node_verdicts.proofs.Block.{AreSoFar, so_far_passed, so_far_more, so_far_all, fetch_inside}
use Rattle.node_verdicts.proofs.ByAges.{decided_right, decided_with, decided_not_none}
use Rattle.node_verdicts.proofs.one_set.judge_settled.Goals as goal
use Rattle.node_verdicts.proofs.one_set.judge_settled.Goals.{in-Some+in_ok-push, in_default}

pub loop-node-preserved : goal.loop-node-preserved
loop-node-preserved c = λ kept.
    let a : Aged = c.args.ages.now in
    let node = c.loop-node.node in
    let judged = c.loop-node.judged.items in
    elim c.match-settled_at.branch [
      | in-Some+in_ok-push w ↦
          let ends = w.in-Some.ends in
          let (is, decided) = w.in-Some.ensures.some in
          so_far_more a.view a.start kept (IsSettled a c.args.unclear.now) node [] judged (c.loop-node.invariant kept) is ends
          (decided_right a node ends decided) (λ none. absurd (decided_not_none a node ends decided none))
          c.match-settled_at.judged.items []
          (ap (λ (v : Vec Judged Global). v.items) w.judged-is ∙ w.in_ok-push.ensures.items)
          (sym (decided_with a node ends (address_of a.view.nodes node) [] decided))
      | in_default w ↦
          subst (AreSoFar a.view a.start kept (IsSettled a c.args.unclear.now) (node + 1) [])
          (ap (λ (v : Vec Judged Global). v.items) (sym w.judged-is))
          (so_far_passed a.view a.start kept (IsSettled a c.args.unclear.now) node [] judged (c.loop-node.invariant kept)
          w.in_default.ensures.none)
    ]

pub returns : goal.returns
returns c = λ kept.
    let a : Aged = c.args.ages.now in
    let are : AreAges a = subst AreAges c.ages.view_is c.ages.invariant in
    let count : length c.nodes.result.now ≡ length a.view.nodes =
    ap length (c.nodes.ensures.same ∙ c.graph.ensures.same ∙ ap (λ (b : Aged). b.view.nodes) c.ages.view_is) in
    let all : length a.view.fetches ≡ c.loop-node.node =
    omega (
      arith,
      count,
      are.is_view.one_each,
      are.is_view.graph.few,
      c.loop-node-test.false,
      c.loop-node.auto.node-end,
    ) in
    so_far_all a.view a.start kept (IsSettled a c.args.unclear.now) c.loop-node.node [] c.loop-node.judged.items
    (c.loop-node.invariant kept) (λ n (block, fetches, not, clear). omega (arith, all, fetch_inside a.view.fetches n block fetches))
